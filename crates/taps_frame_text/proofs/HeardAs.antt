-- How bytes are heard, and what is printed of it.
use Rattle.std.proofs.Common.{◌≡◌, ℕ, ◌<◌, ◌≤◌, Bool, List, [], ◌∷◌, ◌++◌, length, ap, sym, ◌∙◌, arith, Result, Ok, Err, IfOk, OnOk}
use Rattle.taps_base.specs.declared.no_memory.NoMemory.{NoMemory}
use Rattle.taps_framer.specs.Layers.{Layer}
use Rattle.taps_chain.specs.Heard.{Ending, needs, fails, IsHeard}
use Rattle.taps_chain.specs.Hearings.{IsHearingOf}
use Rattle.taps_chain.specs.ChainLaws.{IsLawfulChain, IsHeardOnce}
use Rattle.taps_chain.specs.declared.heard.Heard.{Heard}
use Rattle.taps_chain.specs.declared.heard.Heard.TheVariants as heard
use Rattle.taps_frame_text.specs.declared.text.FrameText.{FrameText}
use Rattle.taps_frame_text.specs.HearingEnds.{ended_line, has_ended_whole, IsEnd, HasEnded}
use Rattle.taps_frame_text.specs.UnframeLines.{message_lines, end_line, is_whole, IsHeardAs, IsOneMessage, IsUnframed}

-- a hearing does not end with a message
pub comes_to_end : (fs : List Layer) (x : List ℕ) (ms : List (List ℕ)) (h : Heard) (n : ℕ) → IsHearingOf fs x ms h n → IsEnd h
comes_to_end fs x ms (heard.Message m) n g = g
comes_to_end fs x ms heard.Need n g = tt
comes_to_end fs x ms (heard.Bad b) n g = tt
comes_to_end fs x ms heard.NoMemory n g = tt

-- what is heard of bytes is all that is heard of them
heard_alone : (fs : List Layer) (x : List ℕ) → 0 < length fs → IsLawfulChain fs → length x ≤ 4194304 → (ms ns : List (List ℕ)) (d e : Ending) (r s : List ℕ) → IsHeard fs 0 x ms d r → IsHeard fs 0 x ns e s → (ns ≡ ms) × (e ≡ d) × (s ≡ r)
heard_alone fs x n w few ms ns d e r s h g =
    let o : IsHeardOnce fs 0 x = w.once n 0 x (omega arith) in
    let a = o.only ms d r h in
    let b = o.only ns e s g in
    (b.messages ∙ sym a.messages, b.ending ∙ sym a.ending, b.rest ∙ sym a.rest)

-- the bytes are heard as what was heard and printed of them
heard_as : (fs : List Layer) (x text : List ℕ) (whole : Bool) (ms : List (List ℕ)) (h : Heard) (n : ℕ) → 0 < length fs → IsLawfulChain fs → length x ≤ 4194304 → IsHearingOf fs x ms h n → HasEnded h → text ≡ message_lines 0 ms ++ ended_line h n → whole ≡ has_ended_whole h n → IsHeardAs fs x text whole
heard_as fs x text whole ms (heard.Message m) n some w few g ended t a = absurd ended
heard_as fs x text whole ms heard.Need n some w few g ended t a = record {
  messages = ms;
  end = needs;
  rest = g.0;
  heard = g.1.0;
  only = λ ns e s j. heard_alone fs x some w few ms ns needs e g.0 s g.1.0 j;
  printed = t ∙ ap (λ (v : ℕ). message_lines 0 ms ++ end_line (length ms) needs v) g.1.1;
  all = a ∙ ap (λ (v : ℕ). is_whole needs v) g.1.1;
}
heard_as fs x text whole ms (heard.Bad b) n some w few g ended t a = record {
  messages = ms;
  end = fails b.layer b.place;
  rest = g.0;
  heard = g.1.0;
  only = λ ns e s j. heard_alone fs x some w few ms ns (fails b.layer b.place) e g.0 s g.1.0 j;
  printed = t ∙ ap (λ (v : ℕ). message_lines 0 ms ++ end_line v (fails b.layer b.place) (length g.0)) g.1.1;
  all = a;
}
heard_as fs x text whole ms heard.NoMemory n some w few g ended t a = absurd ended

-- where a text was made, the bytes are heard as it says
pub heard_text : (fs : List Layer) (x lines : List ℕ) (ms : List (List ℕ)) (h : Heard) (n : ℕ) (made : Result FrameText NoMemory) → 0 < length fs → IsLawfulChain fs → length x ≤ 4194304 → lines ≡ message_lines 0 ms → IsHearingOf fs x ms h n → OnOk made (HasEnded h) → IfOk made (λ framed. framed.text.items ≡ lines ++ ended_line h n) → IfOk made (λ framed. framed.whole ≡ has_ended_whole h n) → IfOk made (λ framed. IsHeardAs fs x framed.text.items framed.whole)
heard_text fs x lines ms h n (Ok framed) some w few l g ended t a = heard_as fs x framed.text.items framed.whole ms h n some w few g ended (t ∙ ap (λ (v : List ℕ). v ++ ended_line h n) l) a
heard_text fs x lines ms h n (Err e) some w few l g ended t a = tt

-- through no layer bytes are one message
pub unframed_none : (fs : List Layer) (x text : List ℕ) (whole : Bool) → length fs ≡ 0 → IsOneMessage x text whole → IsUnframed fs x text whole
unframed_none [] x text whole n h = h
unframed_none (f ∷ fs) x text whole n h = absurd (omega (arith, n))

-- through layers bytes are what is heard of them
pub unframed_some : (fs : List Layer) (x text : List ℕ) (whole : Bool) → 0 < length fs → IsHeardAs fs x text whole → IsUnframed fs x text whole
unframed_some [] x text whole n h = absurd (omega (arith, n))
unframed_some (f ∷ fs) x text whole n h = h
