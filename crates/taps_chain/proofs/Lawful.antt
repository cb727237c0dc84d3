-- A chain of framers keeps the laws of a chain.
use Rattle.std.proofs.Common.{List, ◌++◌, refl}
use Rattle.taps_framer.specs.Layers.{Layer}
use Rattle.taps_chain.specs.Heard.{needs}
use Rattle.taps_chain.specs.ChainLaws.{AreFramers, IsLawfulChain}
use Rattle.taps_chain.proofs.Spelled.{begun_fed, begun_on, heard_on}
use Rattle.taps_chain.proofs.Delimits.{spelling_apart}
use Rattle.taps_chain.proofs.Exists.{one_hearing}
use Rattle.taps_chain.proofs.Cuts.{hears_prefixes, needs_few}

pub lawful_chain : (fs : List Layer) → AreFramers fs → IsLawfulChain fs
lawful_chain fs w = record {
  framers = w;
  delimits = λ n. spelling_apart fs n w;
  once = λ n. one_hearing fs n w;
  begins_on = λ k x y ms ns r s h g. begun_on fs k (x ++ y) ms ns (r ++ y) s (begun_fed fs k x ms r y h) g;
  goes_on = λ k x y ms ns e r s h g. heard_on fs k _ x y ms ns needs e r s refl h g;
  prefixes = λ n. hears_prefixes fs n w;
  few = needs_few fs w;
}
