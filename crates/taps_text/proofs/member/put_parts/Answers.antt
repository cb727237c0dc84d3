use Rattle.std.proofs.Common.{◌≡◌, ◌++◌, [], ◌∷◌, List, ℕ, sym, ap, ◌∙◌, map, append-nil, append_assoc}
use Rattle.std.proofs.lemmas.List.{map-append}
use Rattle.std.proofs.lemmas.Grind.{flat_map-append}
use Rattle.taps_message.specs.Parts.{PartState}
use Rattle.taps_message.specs.declared.part.Part.{Part}
use Rattle.taps_text.specs.MemberLines.{line_of_part, part_lines}
use Rattle.taps_text.proofs.PartsAre.{parts_are}
use Rattle.taps_text.proofs.member.put_parts.Goals as goal

abbrev state_of : Part → PartState
state_of part = record { bytes = part.bytes.now; last = part.last }

-- one part more
one_more : (member number : ℕ) (first now then : List ℕ) (seen : List PartState) (part : PartState) → now ≡ first ++ part_lines member number seen → then ≡ now ++ line_of_part member number part.last part.bytes → then ≡ first ++ part_lines member number (seen ++ part ∷ [])
one_more member number first now then seen part e h =
    h ∙ ap (λ v. v ++ line_of_part member number part.last part.bytes) e ∙ append_assoc first (part_lines member number seen) (line_of_part member number part.last part.bytes)
    ∙ ap (λ v. first ++ v) (ap (λ v. part_lines member number seen ++ v) (sym (append-nil (line_of_part member number part.last part.bytes)))
    ∙ sym (flat_map-append (λ (p : PartState). line_of_part member number p.last p.bytes) seen (part ∷ [])))

pub loop-part-init : goal.loop-part-init
loop-part-init c = record {
  text = sym (append-nil c.args.text.now.items);
  whole = c.into_iter-part-iterator.ensures.into_iter_gives ∙ parts_are c.args.most c.args.body.now c.parts-part-items.result c.requires c.parts-part-items.ensures;
}

pub loop-part-preserved : goal.loop-part-preserved
loop-part-preserved c =
    let seen : List PartState = map state_of c.loop-part.yielded in
    let part : PartState = state_of c.in-Some.part in
    let more : map state_of (c.loop-part.yielded ++ c.in-Some.part ∷ []) ≡ seen ++ part ∷ [] = map-append state_of c.loop-part.yielded (c.in-Some.part ∷ []) in
    record {
      text = one_more c.args.member c.args.number c.args.text.now.items c.loop-part.text.items c.put_one_part.new.text.items seen part c.loop-part.invariant.text c.in_ok-put_one_part.ensures
          ∙ ap (λ v. c.args.text.now.items ++ part_lines c.args.member c.args.number v) (sym more);
      whole = ap (λ v. v ++ c.next.new.self) more ∙ append_assoc seen (part ∷ []) c.next.new.self
          ∙ ap (λ v. seen ++ v) (sym c.in-Some.ensures.steps) ∙ c.loop-part.invariant.whole;
    }

pub returns : goal.returns
returns c =
    let seen : List PartState = map state_of c.loop-part.yielded in
    c.loop-part.invariant.text
    ∙ ap (λ v. c.args.text.now.items ++ part_lines c.args.member c.args.number v)
    (sym (append-nil seen) ∙ ap (λ v. seen ++ v) (sym c.in-None.ensures.steps.0) ∙ c.loop-part.invariant.whole)
