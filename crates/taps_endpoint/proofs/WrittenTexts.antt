-- What was written of an address is read again.
use Rattle.std.proofs.Common.{◌≡◌, ◌≢◌, ◌≤◌, ℕ, zero, suc, List, Option, Some, Result, Ok, Err, refl, arith}
use Rattle.std.specs.Prelude.{IfOk}
use Rattle.taps_endpoint.specs.declared.address.Address.{Address}
use Rattle.taps_endpoint.specs.declared.address.Address.TheVariants.{V4, V6, Unix}
use Rattle.taps_endpoint.specs.AddressTexts.{IsAddressText}
use Rattle.taps_endpoint.specs.Answers.{address_answer}
use Rattle.taps_endpoint.specs.CanonicalTexts.{port_of}
use Rattle.taps_endpoint.proofs.AddressAnswers.{address_answers}

pub written_so : {E T : Type 0} {P Q : T → Type 0} (r : Result T E) → IfOk r P → ((text : T) → P text → Q text) → IfOk r Q
written_so (Ok text) is then = then text is
written_so (Err e) is then = tt

some_port : (port : ℕ) → ◌≢◌ {A = Option ℕ} (Some port) (Some 0) → 1 ≤ port
some_port zero other = absurd (other refl)
some_port (suc port) other = omega arith

again : (address : Address) (text : List ℕ) → IsAddressText address text → address_answer text ≡ Ok address
again address text is = (address_answers text).only address is

pub inet4_again : {E : Type 0} (octets : List ℕ) (port : ℕ) (r : Result (List ℕ) E) → IfOk r (λ text. 1 ≤ port → IsAddressText (V4 octets port) text) → IfOk r (λ text. port_of (V4 octets port) ≢ Some 0 → address_answer text ≡ Ok (V4 octets port))
inet4_again octets port r is = written_so r is (λ text of other. again (V4 octets port) text (of (some_port port other)))

pub inet6_again : {E : Type 0} (fields : List ℕ) (port : ℕ) (r : Result (List ℕ) E) → IfOk r (λ text. 1 ≤ port → IsAddressText (V6 fields port) text) → IfOk r (λ text. port_of (V6 fields port) ≢ Some 0 → address_answer text ≡ Ok (V6 fields port))
inet6_again fields port r is = written_so r is (λ text of other. again (V6 fields port) text (of (some_port port other)))

pub unix_again : {E : Type 0} (path : List ℕ) (r : Result (List ℕ) E) → IfOk r (λ text. IsAddressText (Unix path) text) → IfOk r (λ text. port_of (Unix path) ≢ Some 0 → address_answer text ≡ Ok (Unix path))
unix_again path r is = written_so r is (λ text of other. again (Unix path) text of)
