-- To set a property for one member is to set it for all, unless it is the priority.
use Rattle.std.proofs.Common.{◌≡◌, ◌⊎◌, inl, inr, ℕ, Bool, true, false, List, [], ◌∷◌, if◌then◌else◌, Result, Ok, Err, refl, sym, ◌∙◌, ap, subst}
use Rattle.std.specs.Prelude.{bytes_eq}
use Rattle.std.proofs.lemmas.Slice.Eq.{bytes_eq-Decides}
use Rattle.taps_property.specs.Kinds.{Value, taken}
use Rattle.taps_property.specs.declared.kind.Kind.TheVariants as kind
use Rattle.taps_property.specs.Connections.{connection_table}
use Rattle.taps_property.specs.Properties.{Setting, settings, set_in, with_taken}
use Rattle.taps_property.specs.declared.connection_props.ConnectionProps.{ConnectionProps}
use Rattle.taps_property.specs.declared.prop_error.PropError.{PropError}
use Rattle.taps_property.specs.declared.prop_value.PropValue.{PropValue}
use Rattle.taps_group.specs.Properties.{with_priority, priority_name, set_by, IsSetFor}

taken_with : {V : Type 0} (with : V → ConnectionProps → ConnectionProps) (a : ℕ) (p q : ConnectionProps) (r : Result V PropError) → ((x : V) (c : ConnectionProps) → with x (with_priority a c) ≡ with_priority a (with x c)) → with_taken with p r ≡ Ok q → with_taken with (with_priority a p) r ≡ Ok (with_priority a q)
taken_with with a p q (Ok x) same h = let e : with x p ≡ q = cc in ap Ok (same x p ∙ ap (with_priority a) e)
taken_with with a p q (Err e) same h = absurd (cc)

-- each row is of another name, or says nothing of the priority
abbrev Fits : ℕ → List ℕ → List (Setting ConnectionProps) → Type 0
Fits a name [] = Unit {0}
Fits a name (s ∷ ss) =
    ((bytes_eq name s.name ≡ false) ⊎ ((x : Value s.kind) (c : ConnectionProps) → s.with x (with_priority a c) ≡ with_priority a (s.with x c))) × Fits a name ss

row_on : (s : Setting ConnectionProps) (a : ℕ) (p q : ConnectionProps) (b : Bool) (value : PropValue) (here there : Result ConnectionProps PropError) →
    (b ≡ false) ⊎ ((x : Value s.kind) (c : ConnectionProps) → s.with x (with_priority a c) ≡ with_priority a (s.with x c)) → (here ≡ Ok q → there ≡ Ok (with_priority a q)) →
    (if b then with_taken s.with p (taken s.kind value) else here) ≡ Ok q → (if b then with_taken s.with (with_priority a p) (taken s.kind value) else there) ≡ Ok (with_priority a q)
row_on s a p q false value here there either others h = others h
row_on s a p q true value here there (inl other) others h = absurd (cc)
row_on s a p q true value here there (inr same) others h = taken_with s.with a p q (taken s.kind value) same h

all_on : (ss : List (Setting ConnectionProps)) (a : ℕ) (p q : ConnectionProps) (name : List ℕ) (value : PropValue) → Fits a name ss → set_in ss p name value ≡ Ok q → set_in ss (with_priority a p) name value ≡ Ok (with_priority a q)
all_on [] a p q name value fits h = absurd (cc)
all_on (s ∷ ss) a p q name value fits h = row_on s a p q (bytes_eq name s.name) value (set_in ss p name value) (set_in ss (with_priority a p) name value) fits.0 (all_on ss a p q name value fits.1) h

fits : (a : ℕ) (name : List ℕ) → bytes_eq name priority_name ≡ false → Fits a name (settings connection_table)
fits a name other = (inr (λ x c. refl), (inl other, (inr (λ x c. refl), (inr (λ x c. refl), (inr (λ x c. refl), (inr (λ x c. refl), (inr (λ x c. refl), (inr (λ x c. refl), (inr (λ x c. refl), (inr (λ x c. refl), (inr (λ x c. refl), (inr (λ x c. refl), (inr (λ x c. refl), (inr (λ x c. refl), tt {0}))))))))))))))

pub shared_on : (a : ℕ) (p q : ConnectionProps) (name : List ℕ) (value : PropValue) → bytes_eq name priority_name ≡ false → set_by name value p ≡ Ok q → set_by name value (with_priority a p) ≡ Ok (with_priority a q)
shared_on a p q name value other h = all_on (settings connection_table) a p q name value (fits a name other) h

taken_priority : (a : ℕ) (p q : ConnectionProps) (r : Result ℕ PropError) → with_taken (λ v c. with_priority v c) p r ≡ Ok q → with_priority a q ≡ with_priority a p
taken_priority a p q (Ok x) h = let e : with_priority x p ≡ q = cc in ap (with_priority a) (sym e)
taken_priority a p q (Err e) h = absurd (cc)

pub alone_on : (a : ℕ) (p q : ConnectionProps) (name : List ℕ) (value : PropValue) → bytes_eq name priority_name ≡ true → set_by name value p ≡ Ok q → with_priority a q ≡ with_priority a p
alone_on a p q name value is h =
    let named : name ≡ priority_name = (bytes_eq-Decides name priority_name).0 is in
    taken_priority a p q (taken kind.Number value) (subst (λ n. set_by n value p ≡ Ok q) named h)

pub is_set_for : (name : List ℕ) (value : PropValue) (props props' : ConnectionProps) (priority priority' : ℕ) → priority' ≡ props'.conn_priority → set_by name value (with_priority priority props) ≡ Ok props' → IsSetFor name value props props' priority priority'
is_set_for name value props props' priority priority' is h = record {
  own = h ∙ ap Ok (ap (λ n. with_priority n props') (sym is));
  shared = λ other differs. shared_on other (with_priority priority props) props' name value differs h;
  alone = λ other same. alone_on other (with_priority priority props) props' name value same h;
}
