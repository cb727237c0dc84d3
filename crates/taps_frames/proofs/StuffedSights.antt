-- What is seen as the bytes of a stuffed frame come.
use Rattle.std.proofs.Common.{◌≡◌, ℕ, ◌+◌, ◌<◌, ◌≤◌, Bool, true, false, List, [], ◌∷◌, ◌++◌, length, get_or, take, drop, refl, ap, sym, ◌∙◌, subst, arith, length-append, append_assoc, length-take, length-drop, ◌⊎◌, inl, inr}
use Rattle.std.proofs.Math.Seq.{take-add}
use Rattle.taps_framer.specs.declared.scan.Scan.{Scan}
use Rattle.taps_framer.specs.Prefixes.{are_bytes}
use Rattle.taps_framer.specs.Layers.{IsWholeFrame, holds_whole_frame, lives}
use Rattle.taps_framer.specs.Scans.{Represents}
use Rattle.taps_framer.proofs.Bytes.{both, is_below, are_bytes-append, are_bytes-take, are_bytes-drop}
use Rattle.taps_framer.proofs.Prefixes.{append-nil}
use Rattle.taps_framer.proofs.Laws.{frame_alone}
use Rattle.taps_framer.proofs.Sights.{holds_none, dead_by}
use Rattle.taps_frames.specs.Stuffed.{stuffed, stuffed_scan, spelled, stuff, are_plain, IsPart, IsPlainRun}
use Rattle.taps_frames.proofs.BodyLemmas.{body_of, body_most}
use Rattle.taps_frames.proofs.Spellings.{spelled_ending, spelled_escape, spelled_other, stuff-append, stuff_plain, longer, behind_escape, lone_escape}
use Rattle.taps_frames.proofs.StuffedLaws.{lawful, viable_part}

holds_part : (k : ℕ) (x : List ℕ) (half : Bool) (n : ℕ) → IsPart x half n → holds_whole_frame stuffed k x ≡ false
holds_part k x true n s = holds_none stuffed k x (λ b y h e.
    let r = longer s.body b (219 ∷ []) y (sym s.begun ∙ e ∙ append_assoc (stuff b) (192 ∷ []) y) in
    lone_escape r.rest y r.spelt)
holds_part k x false n s = holds_none stuffed k x (λ b y h e.
    let r = longer s.body b [] y (append-nil (stuff s.body) ∙ sym s.begun ∙ e ∙ append_assoc (stuff b) (192 ∷ []) y) in
    omega (arith, ap length r.spelt, length-append (stuff r.rest) (192 ∷ y)))

-- which part a scan represents, and a part by a scan
pub part_represents : (k : ℕ) (scan : Scan) (x : List ℕ) → IsPart x false scan.length → scan.length ≤ 65535 → scan.phase ≡ 0 → Represents stuffed stuffed_scan k scan x
part_represents k scan x p h e = record { told = (h, inl (e, p)); viable = viable_part k x false scan.length p h; unfinished = holds_part k x false scan.length p }

pub half_represents : (k : ℕ) (scan : Scan) (x : List ℕ) → IsPart x true scan.length → scan.length ≤ 65535 → scan.phase ≡ 1 → Represents stuffed stuffed_scan k scan x
half_represents k scan x p h e = record { told = (h, inr (e, p)); viable = viable_part k x true scan.length p h; unfinished = holds_part k x true scan.length p }

pub is_part : (k : ℕ) (scan : Scan) (x : List ℕ) → Represents stuffed stuffed_scan k scan x → (scan.phase ≡ 1 → ⊥) → IsPart x false scan.length
is_part k scan x r n = elim r.told.1 [ inl w ↦ w.1 | inr w ↦ absurd (n w.0) ]

pub is_half : (k : ℕ) (scan : Scan) (x : List ℕ) → Represents stuffed stuffed_scan k scan x → scan.phase ≡ 1 → IsPart x true scan.length
is_half k scan x r e = elim r.told.1 [ inl w ↦ (let z = w.0 in absurd (omega (arith, z, e))) | inr w ↦ w.1 ]

pub nothing_yet : IsPart [] false 0
nothing_yet = record { body = []; begun = refl; size = refl; bytes = refl }

-- one byte more
pub opens : (x : List ℕ) (n : ℕ) → IsPart x false n → IsPart (x ++ 219 ∷ []) true (n + 1)
opens x n s = record { body = s.body; begun = ap (λ (w : List ℕ). w ++ 219 ∷ []) s.begun; size = ap (λ (v : ℕ). v + 1) s.size; bytes = s.bytes }

closed : (x : List ℕ) (n c v : ℕ) → IsPart x true n → spelled v ≡ 219 ∷ c ∷ [] → v < 256 → IsPart (x ++ c ∷ []) false n
closed x n c v s e m = record {
  body = s.body ++ v ∷ [];
  begun = ap (λ (w : List ℕ). w ++ c ∷ []) s.begun ∙ append_assoc (stuff s.body) (219 ∷ []) (c ∷ [])
      ∙ ap (λ (w : List ℕ). stuff s.body ++ (w ++ [])) (sym e) ∙ sym (stuff-append s.body (v ∷ []));
  size = omega (arith, s.size, length-append s.body (v ∷ []));
  bytes = are_bytes-append s.body (v ∷ []) s.bytes (both _ _ (is_below v 256 m) refl);
}

pub closes : (x : List ℕ) (n c : ℕ) → IsPart x true n → (c ≡ 220) ⊎ (c ≡ 221) → IsPart (x ++ c ∷ []) false n
closes x n c s k = elim k [
  | inl e ↦ closed x n c 192 s (spelled_ending ∙ ap (λ (v : ℕ). 219 ∷ v ∷ []) (sym e)) (omega arith)
  | inr e ↦ closed x n c 219 s (spelled_escape ∙ ap (λ (v : ℕ). 219 ∷ v ∷ []) (sym e)) (omega arith)
]

pub one_read : (x : List ℕ) (n c : ℕ) → IsPart x false n → c < 256 → (c ≡ 192 → ⊥) → (c ≡ 219 → ⊥) → IsPart (x ++ c ∷ []) false (n + 1)
one_read x n c s m p q = record {
  body = s.body ++ c ∷ [];
  begun = ap (λ (w : List ℕ). w ++ c ∷ []) s.begun ∙ ap (λ (w : List ℕ). stuff s.body ++ (w ++ [])) (sym (spelled_other c p q)) ∙ sym (stuff-append s.body (c ∷ []));
  size = omega (arith, s.size, length-append s.body (c ∷ []));
  bytes = are_bytes-append s.body (c ∷ []) s.bytes (both _ _ (is_below c 256 m) refl);
}

pub whole_seen : (k : ℕ) (x : List ℕ) (n : ℕ) → IsPart x false n → n ≤ 65535 → IsWholeFrame stuffed k (x ++ 192 ∷ [])
whole_seen k x n s h = frame_alone stuffed k (lawful k) s.body (x ++ 192 ∷ []) (body_of 0 65535 s.body (omega arith) (omega (arith, h, s.size)) s.bytes)
    (ap (λ (w : List ℕ). w ++ 192 ∷ []) s.begun)

no_more : (t : List ℕ) (c : ℕ) (y z : List ℕ) → length t ≡ 0 → c ∷ y ≡ stuff t ++ 192 ∷ z → c ≡ 192
no_more [] c y z n e = ap (λ (w : List ℕ). get_or w 0 0) e
no_more (q ∷ t) c y z n e = absurd (omega arith)

dead_full : (k : ℕ) (x d : List ℕ) (c : ℕ) → x ≡ stuff d ++ c ∷ [] → length d ≡ 65535 → (c ≡ 192 → ⊥) → lives stuffed k x ≡ false
dead_full k x d c e n not = dead_by stuffed k x (λ b y z h f.
    let g : stuff d ++ c ∷ y ≡ stuff b ++ 192 ∷ z =
    sym (append_assoc (stuff d) (c ∷ []) y) ∙ ap (λ (w : List ℕ). w ++ y) (sym e) ∙ f ∙ append_assoc (stuff b) (192 ∷ []) z in
    let r = longer d b (c ∷ y) z g in
    let l : length b ≤ 65535 = body_most 0 65535 b h in
    not (no_more r.rest c y z (omega (arith, n, l, ap length r.split, length-append d r.rest)) r.spelt))

-- a byte of the body where there is no room for one
pub full_bad : (k : ℕ) (x : List ℕ) (n c : ℕ) → IsPart x false n → n ≡ 65535 → (c ≡ 192 → ⊥) → lives stuffed k (x ++ c ∷ []) ≡ false
full_bad k x n c s m not = dead_full k (x ++ c ∷ []) s.body c (ap (λ (w : List ℕ). w ++ c ∷ []) s.begun) (omega (arith, m, s.size)) not

dead_escape : (k : ℕ) (x d : List ℕ) (c : ℕ) → x ≡ (stuff d ++ 219 ∷ []) ++ c ∷ [] → (c ≡ 220 → ⊥) → (c ≡ 221 → ⊥) → lives stuffed k x ≡ false
dead_escape k x d c e p q = dead_by stuffed k x (λ b y z h f.
    let a : x ≡ stuff d ++ 219 ∷ c ∷ [] = e ∙ append_assoc (stuff d) (219 ∷ []) (c ∷ []) in
    let g : stuff d ++ 219 ∷ c ∷ y ≡ stuff b ++ 192 ∷ z =
    sym (append_assoc (stuff d) (219 ∷ c ∷ []) y) ∙ ap (λ (w : List ℕ). w ++ y) (sym a) ∙ f ∙ append_assoc (stuff b) (192 ∷ []) z in
    let r = longer d b (219 ∷ c ∷ y) z g in
    elim (behind_escape r.rest c y z r.spelt) [ inl i ↦ p i | inr i ↦ q i ])

-- another byte behind an escape byte
pub escape_bad : (k : ℕ) (x : List ℕ) (n c : ℕ) → IsPart x true n → (c ≡ 220 → ⊥) → (c ≡ 221 → ⊥) → lives stuffed k (x ++ c ∷ []) ≡ false
escape_bad k x n c s p q = dead_escape k (x ++ c ∷ []) s.body c (ap (λ (w : List ℕ). w ++ c ∷ []) s.begun) p q

-- a run of bytes that are spelled by themselves
run_read : (x r : List ℕ) (n : ℕ) → IsPart x false n → are_bytes r ≡ true → are_plain r ≡ true → IsPart (x ++ r) false (n + length r)
run_read x r n s a p = record {
  body = s.body ++ r;
  begun = ap (λ (w : List ℕ). w ++ r) s.begun ∙ ap (λ (w : List ℕ). stuff s.body ++ w) (sym (stuff_plain r p)) ∙ sym (stuff-append s.body r);
  size = omega (arith, s.size, length-append s.body r);
  bytes = are_bytes-append s.body r s.bytes a;
}

pub run_represents : (k : ℕ) (scan : Scan) (x next : List ℕ) (r : ℕ) → IsPlainRun scan next r → are_bytes next ≡ true → Represents stuffed stuffed_scan k scan x →
    Represents stuffed stuffed_scan k (record { phase = scan.phase; length = scan.length + r; rest = 0 }) (x ++ take r next)
run_represents k scan x next r p a h = elim h.told.1 [
  | inl w ↦ part_represents k (record { phase = scan.phase; length = scan.length + r; rest = 0 }) (x ++ take r next)
      (subst (λ (v : ℕ). IsPart (x ++ take r next) false (scan.length + v)) (let l = p.within in omega (arith, l, length-take r next))
      (run_read x (take r next) scan.length w.1 (are_bytes-take r next a) p.plain)) p.room w.0
  | inr w ↦ (let z : r ≡ 0 = p.none_escaped w.0 in
      let e : x ≡ x ++ take r next = sym (append-nil x) ∙ ap (λ (v : ℕ). x ++ take v next) (sym z) in
      let f : scan.length ≡ scan.length + r = omega arith in
      half_represents k (record { phase = scan.phase; length = scan.length + r; rest = 0 }) (x ++ take r next)
      (subst (λ (v : ℕ). IsPart (x ++ take r next) true v) f (subst (λ (v : List ℕ). IsPart v true scan.length) e w.1)) p.room w.0)
]

-- the run from a place on
pub run_within : (scan : Scan) (bytes : List ℕ) (at r : ℕ) → IsPlainRun scan (drop at bytes) r → at ≤ length bytes → at + r ≤ length bytes
run_within scan bytes at r p h = let w = p.within in omega (arith, w, h, length-drop at bytes)

pub behind_run : (k : ℕ) (scan : Scan) (x bytes : List ℕ) (at r : ℕ) → IsPlainRun scan (drop at bytes) r → are_bytes bytes ≡ true →
    Represents stuffed stuffed_scan k scan (x ++ take at bytes) →
    Represents stuffed stuffed_scan k (record { phase = scan.phase; length = scan.length + r; rest = 0 }) (x ++ take (at + r) bytes)
behind_run k scan x bytes at r p a h =
    subst (λ (w : List ℕ). Represents stuffed stuffed_scan k (record { phase = scan.phase; length = scan.length + r; rest = 0 }) w)
    (append_assoc x (take at bytes) (take r (drop at bytes)) ∙ ap (λ (w : List ℕ). x ++ w) (sym (take-add at r bytes)))
    (run_represents k scan (x ++ take at bytes) (drop at bytes) r p (are_bytes-drop at bytes a) h)
