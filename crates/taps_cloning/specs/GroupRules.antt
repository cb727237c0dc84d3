-- What the clones of a group and its exchange go by (RFC 9622 section 7.4; the numbers are local).
use Rattle.std.specs.Prelude.{ℕ, List}
use Rattle.taps_framer.specs.Layers.{Layer}
use Rattle.taps_group_exchange.specs.declared.addressed.Addressed.{Addressed}
use Rattle.taps_group_exchange.specs.Members.{GroupTerms}
use Rattle.taps_cloning.specs.declared.terms.Terms.{Terms}

-- of a group whose members send these messages through these layers, with these priorities by place
abbrev pub terms_of : Terms → List Layer → List ℕ → List Addressed → GroupTerms
terms_of t fs priorities messages = record {
  target = t.target;
  layers = fs;
  props = t.props;
  clones = t.clones;
  leaf = t.leaf;
  timeout = t.timeout_ms;
  priorities = priorities;
  messages = messages;
  needs = t.expect;
  piece = t.piece;
  lasts = t.deadline_ms;
}
