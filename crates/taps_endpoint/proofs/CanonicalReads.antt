-- The canonical text of an IPv6 address is a text of it.
use Rattle.std.proofs.Common.{◌≡◌, ◌<◌, ◌≤◌, ℕ, zero, suc, ◌+◌, ◌-◌, ◌==◌, List, [], ◌∷◌, ◌++◌, length, take, drop, get_or, replicate, nat_le, refl, sym, ap, ◌∙◌, inl, inr, arith, append_assoc, length-drop, lit<, lit≤}
use Rattle.std.proofs.lemmas.Bool.{cases_Bool}
use Rattle.std.proofs.lemmas.Bool.Decides.{nat_tests}
use Rattle.std.proofs.lemmas.List.{get_or-drop, append-nil}
use Rattle.taps_endpoint.specs.Inet6Texts.{AreLed, AreJoined, IsFront, IsBack, IsShortened, IsInet6Text}
use Rattle.std.specs.Fmt.{decimal}
use Rattle.taps_endpoint.specs.declared.address.Address.TheVariants.{V6}
use Rattle.taps_endpoint.specs.AddressTexts.{IsAddressText}
use Rattle.taps_endpoint.specs.CanonicalTexts.{hex, joined, zeros, longest, shortened, inet6_text, canonical_text}
use Rattle.taps_endpoint.proofs.HexTexts.{is_field}

pub record InRange (fields : List ℕ) : Type 0 where
  pub at : (k : ℕ) → get_or fields k 0 < 65536

tail_range : (field : ℕ) (fields : List ℕ) → InRange (field ∷ fields) → InRange fields
tail_range field fields range = record { at = λ k. range.at (suc k) }

drop_range : (n : ℕ) (fields : List ℕ) → InRange fields → InRange (drop n fields)
drop_range n fields range = record { at = λ k. rw (get_or-drop n fields k 0) (range.at (n + k)) }

cons_range : (field : ℕ) (fields : List ℕ) → field < 65536 → InRange fields → (k : ℕ) → get_or (field ∷ fields) k 0 < 65536
cons_range field fields lt range zero = lt
cons_range field fields lt range (suc k) = range.at k

take_range : (n : ℕ) (fields : List ℕ) → InRange fields → InRange (take n fields)
take_range zero fields range = record { at = λ k. lit< tt }
take_range (suc n) [] range = record { at = λ k. lit< tt }
take_range (suc n) (field ∷ fields) range = record { at = cons_range field (take n fields) (range.at 0) (take_range n fields (tail_range field fields range)) }

joined_is : (field : ℕ) (fields : List ℕ) → InRange (field ∷ fields) → AreJoined (field ∷ fields) (joined (field ∷ fields))
joined_is field [] range = record { values = []; last_values = field ∷ []; led = []; last = hex field; parts = refl; spelled = append-nil (hex field); is_led = refl; is_last = is_field field (range.at 0) }
joined_is field (next ∷ fields) range =
    let more = joined_is next fields (tail_range field (next ∷ fields) range) in
    record {
      values = field ∷ more.values;
      last_values = more.last_values;
      led = hex field ++ 58 ∷ more.led;
      last = more.last;
      parts = ap (λ (xs : List ℕ). field ∷ xs) more.parts;
      spelled = ap (λ (y : List ℕ). hex field ++ 58 ∷ y) more.spelled ∙ sym (append_assoc (hex field) (58 ∷ more.led) more.last);
      is_led = (hex field, more.led, is_field field (range.at 0), refl, more.is_led);
      is_last = more.is_last;
    }

led_is : (field : ℕ) (fields : List ℕ) → InRange (field ∷ fields) → AreLed (field ∷ fields) (joined (field ∷ fields) ++ 58 ∷ [])
led_is field [] range = (hex field, [], is_field field (range.at 0), rw (append-nil (hex field)) refl, refl)
led_is field (next ∷ fields) range =
    (hex field, joined (next ∷ fields) ++ 58 ∷ [], is_field field (range.at 0), append_assoc (hex field) (58 ∷ joined (next ∷ fields)) (58 ∷ []), led_is next fields (tail_range field (next ∷ fields) range))

front_is : (fields : List ℕ) → InRange fields → IsFront fields (joined fields ++ 58 ∷ 58 ∷ [])
front_is [] range = refl
front_is (field ∷ fields) range = (joined (field ∷ fields) ++ 58 ∷ [], led_is field fields range, sym (append_assoc (joined (field ∷ fields)) (58 ∷ []) (58 ∷ [])))

back_is : (fields : List ℕ) → InRange fields → IsBack fields (joined fields)
back_is [] range = refl
back_is (field ∷ fields) range = joined_is field fields range

-- the fields before and behind some zeros
record Cut (fields : List ℕ) (before count : ℕ) : Type 0 where
  pub within : before + count ≤ length fields
  pub before_them : length (take before fields) ≡ before
  pub same : fields ≡ take before fields ++ (replicate count 0 ++ drop (before + count) fields)

zeros_front : (fields : List ℕ) → (fields ≡ replicate (zeros fields) 0 ++ drop (zeros fields) fields) × (zeros fields ≤ length fields)
zeros_front [] = (refl, lit≤ tt)
zeros_front (field ∷ fields) = elim (cases_Bool (field == 0)) [
  | inl none ↦
      let is : field ≡ 0 = grind (arith, nat_tests) in
      let (same, within) = zeros_front fields in
      let count : 1 + zeros fields ≡ suc (zeros fields) = omega arith in
      rw (none, count) (ap (λ (xs : List ℕ). field ∷ xs) same ∙ ap (λ (k : ℕ). k ∷ (replicate (zeros fields) 0 ++ drop (zeros fields) fields)) is, omega arith)
  | inr some ↦ rw some (refl, omega arith)
]

cut_here : (fields : List ℕ) (count : ℕ) → fields ≡ replicate count 0 ++ drop count fields → count ≤ length fields → Cut fields 0 count
cut_here fields count same le = record { within = omega arith; before_them = refl; same = rw (let e : 0 + count ≡ count = omega arith in e) same }

cut_later : (field : ℕ) (fields : List ℕ) (before count : ℕ) → Cut fields before count → Cut (field ∷ fields) (before + 1) count
cut_later field fields before count cut =
    let e : suc before + count ≡ suc (before + count) = omega arith in
    let next : before + 1 ≡ suc before = omega arith in
    rw next (record { within = omega (arith, cut.within); before_them = ap (λ (k : ℕ). suc k) cut.before_them; same = rw e (ap (λ (xs : List ℕ). field ∷ xs) cut.same) })

longest_cut : (fields : List ℕ) → Cut fields (longest fields).0 (longest fields).1
longest_cut [] = record { within = lit≤ tt; before_them = refl; same = refl }
longest_cut (field ∷ fields) = elim (cases_Bool (nat_le (longest fields).1 (zeros (field ∷ fields)))) [
  | inl here ↦ let (same, within) = zeros_front (field ∷ fields) in rw here (cut_here (field ∷ fields) (zeros (field ∷ fields)) same within)
  | inr later ↦ rw later (cut_later field fields (longest fields).0 (longest fields).1 (longest_cut fields))
]

is_shortened : (fields : List ℕ) (before count : ℕ) → length fields ≡ 8 → 2 ≤ count → InRange fields → Cut fields before count → IsShortened fields (joined (take before fields) ++ 58 ∷ 58 ∷ joined (drop (before + count) fields))
is_shortened fields before count eight some range cut =
    let back : length (drop (before + count) fields) ≡ 8 - (before + count) = rw (length-drop (before + count) fields, eight) refl in
    let zeros_there : 8 - (length (take before fields) + length (drop (before + count) fields)) ≡ count = omega (arith, cut.within, cut.before_them) in
    record {
      front = take before fields;
      back = drop (before + count) fields;
      front_text = joined (take before fields) ++ 58 ∷ 58 ∷ [];
      back_text = joined (drop (before + count) fields);
      parts = rw zeros_there cut.same;
      spelled = sym (append_assoc (joined (take before fields)) (58 ∷ 58 ∷ []) (joined (drop (before + count) fields)));
      zeros = omega (arith, cut.within, cut.before_them);
      is_front = front_is (take before fields) (take_range before fields range);
      is_back = back_is (drop (before + count) fields) (drop_range (before + count) fields range);
    }

text_at : (fields : List ℕ) (before count : ℕ) → length fields ≡ 8 → InRange fields → Cut fields before count → IsInet6Text fields (shortened fields (before, count))
text_at [] before count eight range cut = absurd (omega arith)
text_at (field ∷ fields) before count eight range cut = elim (cases_Bool (nat_le 2 count)) [
  | inl short ↦ rw short (inr (is_shortened (field ∷ fields) before count eight (grind (arith, nat_tests)) range cut))
  | inr long ↦ rw long (inl (eight, joined_is field fields range))
]

pub inet6_text_is : (fields : List ℕ) → length fields ≡ 8 → InRange fields → IsInet6Text fields (inet6_text fields)
unfolding inet6_text
inet6_text_is fields eight range = text_at fields (longest fields).0 (longest fields).1 eight range (longest_cut fields)

pub inet6_canonical : (fields : List ℕ) (port : ℕ) → length fields ≡ 8 → InRange fields → 1 ≤ port → port ≤ 65535 → IsAddressText (V6 fields port) (canonical_text (V6 fields port))
inet6_canonical fields port eight range some fits = record {
  inside = 91 ∷ (inet6_text fields ++ 93 ∷ []);
  is_inside = record { inside = inet6_text fields; is_inside = inet6_text_is fields eight range; spelled = refl };
  port_some = some;
  port_fits = fits;
  spelled = ap (λ (y : List ℕ). 91 ∷ y) (sym (append_assoc (inet6_text fields) (93 ∷ []) (58 ∷ decimal port)));
}
