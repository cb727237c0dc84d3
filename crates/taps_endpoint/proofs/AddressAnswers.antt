-- The answer to an address text is the address, the only one, or the place of the text.
use Rattle.std.proofs.Common.{◌≡◌, ℕ, List, ◌∷◌, ◌++◌, Option, Some, None, ◌⊎◌, inl, inr, refl, ap, ◌∙◌}
use Rattle.std.specs.Fmt.{decimal}
use Rattle.taps_endpoint.specs.declared.address.Address.{Address}
use Rattle.taps_endpoint.specs.declared.address.Address.TheVariants.{V4, V6, Unix}
use Rattle.taps_endpoint.specs.declared.address_error.AddressError.{AddressError}
use Rattle.taps_endpoint.specs.declared.inet6.Inet6State.{Inet6State}
use Rattle.taps_endpoint.specs.declared.inet4.Before.TheVariants.{Zero}
use Rattle.taps_endpoint.specs.declared.unix.Unfinished.TheVariants.{Start}
use Rattle.taps_endpoint.specs.declared.bracketed.Bracketed.{Bracketed}
use Rattle.taps_endpoint.specs.declared.bracketed.Bracketed.TheVariants as brackets
use Rattle.taps_endpoint.specs.declared.with_port.WithPort.TheVariants.{Inside}
use Rattle.taps_endpoint.specs.Machines.{run, Reads}
use Rattle.taps_endpoint.specs.Inet4Texts.{IsInet4Text}
use Rattle.taps_endpoint.specs.Inet4Machine.{step_inet4, at_end_inet4, fresh}
use Rattle.taps_endpoint.specs.Inet6Texts.{IsInet6Text}
use Rattle.taps_endpoint.specs.Inet6Machine.{step_inet6, at_end_inet6, start_inet6}
use Rattle.taps_endpoint.specs.UnixTexts.{IsUnixText, step_unix, at_end_unix}
use Rattle.taps_endpoint.specs.Ports.{HasPort, IsBracketed}
use Rattle.taps_endpoint.specs.BracketMachine.{step_bracketed, value_bracketed}
use Rattle.taps_endpoint.specs.PortMachine.{step_with_port, value_with_port}
use Rattle.taps_endpoint.specs.AddressTexts.{IsAddressText, IsInet4AddressText}
use Rattle.taps_endpoint.specs.Answers.{answer_either, read_inet4, read_inet6, read_unix, address_answer}
use Rattle.taps_endpoint.proofs.MachineLaws.{answers}
use Rattle.taps_endpoint.proofs.AnswerLaws.{IsAnswer, IsAnswerWith, image_answer, union_answer, error_answer}
use Rattle.taps_endpoint.proofs.Inet4Reads.{reads_inet4, stops_inet4}
use Rattle.taps_endpoint.proofs.Inet6Reads.{reads_inet6, stops_inet6}
use Rattle.taps_endpoint.proofs.UnixReads.{reads_unix}
use Rattle.taps_endpoint.proofs.BracketReads.{stops_from, reads_bracketed}
use Rattle.taps_endpoint.proofs.PortReads.{stops_before, reads_with_port}

-- The machines with a port read their grammars.

reads_inet4_port : Reads (HasPort IsInet4Text) (step_with_port step_inet4 at_end_inet4) value_with_port (Inside (fresh Zero))
reads_inet4_port = reads_with_port IsInet4Text step_inet4 at_end_inet4 (fresh Zero) reads_inet4 (stops_before step_inet4 at_end_inet4 (λ s a e. stops_inet4 s.before s.number 58 refl refl))

bracket_stops : (s : Bracketed Inet6State (List ℕ)) (fields : List ℕ) → value_bracketed s ≡ Some fields → step_bracketed step_inet6 at_end_inet6 start_inet6 s 58 ≡ None
bracket_stops brackets.Outside fields e = refl
bracket_stops (brackets.Inside s) fields e = absurd (cc)
bracket_stops (brackets.Closed a) fields e = refl

reads_inet6_port : Reads (HasPort (IsBracketed IsInet6Text)) (step_with_port (step_bracketed step_inet6 at_end_inet6 start_inet6) value_bracketed) value_with_port (Inside brackets.Outside)
reads_inet6_port = reads_with_port (IsBracketed IsInet6Text) (step_bracketed step_inet6 at_end_inet6 start_inet6) value_bracketed brackets.Outside
    (reads_bracketed IsInet6Text step_inet6 at_end_inet6 start_inet6 reads_inet6 (stops_from step_inet6 (λ s. stops_inet6 s.front s.fields s.token)))
    (stops_before (step_bracketed step_inet6 at_end_inet6 start_inet6) value_bracketed bracket_stops)

-- The texts of one family.

abbrev IsInet6AddressText : Address → List ℕ → Type 0
IsInet6AddressText (V4 octets port) text = ⊥
IsInet6AddressText (V6 fields port) text = HasPort (IsBracketed IsInet6Text) (fields, port) text
IsInet6AddressText (Unix path) text = ⊥

abbrev IsUnixAddressText : Address → List ℕ → Type 0
IsUnixAddressText (V4 octets port) text = ⊥
IsUnixAddressText (V6 fields port) text = ⊥
IsUnixAddressText (Unix path) text = IsUnixText path text

-- all but IPv4
abbrev IsOtherText : Address → List ℕ → Type 0
IsOtherText (V4 octets port) text = ⊥
IsOtherText (V6 fields port) text = HasPort (IsBracketed IsInet6Text) (fields, port) text
IsOtherText (Unix path) text = IsUnixText path text

inet4_back : (address : Address) (x : List ℕ) → IsInet4AddressText address x → (value : List ℕ × ℕ) × HasPort IsInet4Text value x × (address ≡ V4 value.0 value.1)
inet4_back (V4 octets port) x is = ((octets, port), is, refl)
inet4_back (V6 fields port) x is = absurd is
inet4_back (Unix path) x is = absurd is

inet6_back : (address : Address) (x : List ℕ) → IsInet6AddressText address x → (value : List ℕ × ℕ) × HasPort (IsBracketed IsInet6Text) value x × (address ≡ V6 value.0 value.1)
inet6_back (V4 octets port) x is = absurd is
inet6_back (V6 fields port) x is = ((fields, port), is, refl)
inet6_back (Unix path) x is = absurd is

unix_back : (address : Address) (x : List ℕ) → IsUnixAddressText address x → (path : List ℕ) × IsUnixText path x × (address ≡ Unix path)
unix_back (V4 octets port) x is = absurd is
unix_back (V6 fields port) x is = absurd is
unix_back (Unix path) x is = (path, is, refl)

inet4_read : (text : List ℕ) → IsAnswer IsInet4AddressText text (read_inet4 text)
unfolding read_inet4
inet4_read text = image_answer (λ v. V4 v.0 v.1) (HasPort IsInet4Text) IsInet4AddressText text _ (record { forth = λ a x is. is; back = inet4_back })
    (answers (HasPort IsInet4Text) (step_with_port step_inet4 at_end_inet4) value_with_port (Inside (fresh Zero)) text reads_inet4_port)

inet6_read : (text : List ℕ) → IsAnswer IsInet6AddressText text (read_inet6 text)
unfolding read_inet6
inet6_read text = image_answer (λ v. V6 v.0 v.1) (HasPort (IsBracketed IsInet6Text)) IsInet6AddressText text _ (record { forth = λ a x is. is; back = inet6_back })
    (answers (HasPort (IsBracketed IsInet6Text)) (step_with_port (step_bracketed step_inet6 at_end_inet6 start_inet6) value_bracketed) value_with_port (Inside brackets.Outside) text reads_inet6_port)

unix_read : (text : List ℕ) → IsAnswer IsUnixAddressText text (read_unix text)
unfolding read_unix
unix_read text = image_answer Unix IsUnixText IsUnixAddressText text _ (record { forth = λ a x is. is; back = unix_back }) (answers IsUnixText step_unix at_end_unix Start text reads_unix)

-- The families have no text in common.

-- a text of a grammar is read
read_at_all : {S A : Type 0} (IsText : A → List ℕ → Type 0) (step : S → ℕ → Option S) (at_end : S → Option A) (start : S) (a : A) (x y : List ℕ) → Reads IsText step at_end start → IsText a x → x ≡ y → run step start y ≡ None → ⊥
read_at_all IsText step at_end start a x y reads is same none =
    let (s, runs, gives) = reads.accepts a x is in
    let here : run step start x ≡ None = rw same none in cc

no_bracket : (x : List ℕ) → run (step_with_port step_inet4 at_end_inet4) (Inside (fresh Zero)) (91 ∷ x) ≡ None
unfolding step_inet4
no_bracket x = refl

no_letter : (x : List ℕ) → run (step_with_port step_inet4 at_end_inet4) (Inside (fresh Zero)) (117 ∷ x) ≡ None
unfolding step_inet4
no_letter x = refl

begins_with_bracket : (value : List ℕ × ℕ) (x : List ℕ) → HasPort (IsBracketed IsInet6Text) value x → (y : List ℕ) × (x ≡ 91 ∷ y)
begins_with_bracket value x is = (_, is.spelled ∙ ap (λ (y : List ℕ). y ++ 58 ∷ decimal value.1) is.is_inside.spelled)

inet4_apart : (a b : Address) (x : List ℕ) → IsInet4AddressText a x → IsOtherText b x → ⊥
inet4_apart a (V4 octets port) x is also = absurd also
inet4_apart a (V6 fields port) x is also =
    let (value, of_value, same) = inet4_back a x is in
    let (y, begins) = begins_with_bracket (fields, port) x also in
    read_at_all (HasPort IsInet4Text) (step_with_port step_inet4 at_end_inet4) value_with_port (Inside (fresh Zero)) value x (91 ∷ y) reads_inet4_port of_value begins (no_bracket y)
inet4_apart a (Unix path) x is also =
    let (value, of_value, same) = inet4_back a x is in
    read_at_all (HasPort IsInet4Text) (step_with_port step_inet4 at_end_inet4) value_with_port (Inside (fresh Zero)) value x (117 ∷ 110 ∷ 105 ∷ 120 ∷ 58 ∷ path) reads_inet4_port of_value also.spelled (no_letter (110 ∷ 105 ∷ 120 ∷ 58 ∷ path))

inet6_apart : (a b : Address) (x : List ℕ) → IsInet6AddressText a x → IsUnixAddressText b x → ⊥
inet6_apart a b x is also =
    let (value, of_value, same) = inet6_back a x is in
    let (path, of_path, alike) = unix_back b x also in
    read_at_all (HasPort (IsBracketed IsInet6Text)) (step_with_port (step_bracketed step_inet6 at_end_inet6 start_inet6) value_bracketed) value_with_port (Inside brackets.Outside) value x (117 ∷ 110 ∷ 105 ∷ 120 ∷ 58 ∷ path) reads_inet6_port of_value of_path.spelled refl

other_left : (a : Address) (x : List ℕ) → IsInet6AddressText a x → IsOtherText a x
other_left (V4 octets port) x is = absurd is
other_left (V6 fields port) x is = is
other_left (Unix path) x is = absurd is

other_right : (a : Address) (x : List ℕ) → IsUnixAddressText a x → IsOtherText a x
other_right (V4 octets port) x is = absurd is
other_right (V6 fields port) x is = absurd is
other_right (Unix path) x is = is

other_back : (a : Address) (x : List ℕ) → IsOtherText a x → IsInet6AddressText a x ⊎ IsUnixAddressText a x
other_back (V4 octets port) x is = absurd is
other_back (V6 fields port) x is = inl is
other_back (Unix path) x is = inr is

all_left : (a : Address) (x : List ℕ) → IsInet4AddressText a x → IsAddressText a x
all_left (V4 octets port) x is = is
all_left (V6 fields port) x is = absurd is
all_left (Unix path) x is = absurd is

all_right : (a : Address) (x : List ℕ) → IsOtherText a x → IsAddressText a x
all_right (V4 octets port) x is = absurd is
all_right (V6 fields port) x is = is
all_right (Unix path) x is = is

all_back : (a : Address) (x : List ℕ) → IsAddressText a x → IsInet4AddressText a x ⊎ IsOtherText a x
all_back (V4 octets port) x is = inl is
all_back (V6 fields port) x is = inr is
all_back (Unix path) x is = inr is

-- What the parser of addresses answers.

pub address_answers : (text : List ℕ) → IsAnswerWith (λ (e : AddressError). e.place) IsAddressText text (address_answer text)
unfolding address_answer
address_answers text =
    let others = union_answer IsInet6AddressText IsUnixAddressText IsOtherText text (read_inet6 text) (read_unix text) (record { left = other_left; right = other_right; back = other_back; apart = inet6_apart }) (inet6_read text) (unix_read text) in
    let all = union_answer IsInet4AddressText IsOtherText IsAddressText text (read_inet4 text) (answer_either (read_inet6 text) (read_unix text)) (record { left = all_left; right = all_right; back = all_back; apart = inet4_apart }) (inet4_read text) others in
    error_answer (λ place. record { place = place }) (λ (e : AddressError). e.place) IsAddressText text _ (λ place. refl) all
