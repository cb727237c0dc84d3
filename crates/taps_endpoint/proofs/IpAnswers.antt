-- The answer to a text of a host's address is the address, the only one, or the place of the text.
use Rattle.std.proofs.Common.{◌≡◌, ℕ, List, ◌⊎◌, inl, inr, refl}
use Rattle.taps_endpoint.specs.declared.address.Ip.{Ip}
use Rattle.taps_endpoint.specs.declared.address.Ip.TheVariants.{V4, V6}
use Rattle.taps_endpoint.specs.declared.address_error.AddressError.{AddressError}
use Rattle.taps_endpoint.specs.declared.inet4.Before.TheVariants.{Zero}
use Rattle.taps_endpoint.specs.Inet4Texts.{IsInet4Text}
use Rattle.taps_endpoint.specs.Inet4Machine.{step_inet4, at_end_inet4, fresh}
use Rattle.taps_endpoint.specs.Inet6Texts.{IsInet6Text}
use Rattle.taps_endpoint.specs.Inet6Machine.{step_inet6, at_end_inet6, start_inet6}
use Rattle.taps_endpoint.specs.AddressTexts.{IsIpText}
use Rattle.taps_endpoint.specs.Answers.{read_inet4_ip, read_inet6_ip, ip_answer}
use Rattle.taps_endpoint.proofs.MachineLaws.{answers}
use Rattle.taps_endpoint.proofs.AnswerLaws.{IsAnswer, IsAnswerWith, image_answer, union_answer, error_answer}
use Rattle.taps_endpoint.proofs.Inet4Reads.{reads_inet4}
use Rattle.taps_endpoint.proofs.Inet6Accepts.{not_inet4}
use Rattle.taps_endpoint.proofs.Inet6Reads.{reads_inet6}

abbrev IsInet4Ip : Ip → List ℕ → Type 0
IsInet4Ip (V4 octets) text = IsInet4Text octets text
IsInet4Ip (V6 fields) text = ⊥

abbrev IsInet6Ip : Ip → List ℕ → Type 0
IsInet6Ip (V4 octets) text = ⊥
IsInet6Ip (V6 fields) text = IsInet6Text fields text

inet4_back : (ip : Ip) (x : List ℕ) → IsInet4Ip ip x → (octets : List ℕ) × IsInet4Text octets x × (ip ≡ V4 octets)
inet4_back (V4 octets) x is = (octets, is, refl)
inet4_back (V6 fields) x is = absurd is

inet6_back : (ip : Ip) (x : List ℕ) → IsInet6Ip ip x → (fields : List ℕ) × IsInet6Text fields x × (ip ≡ V6 fields)
inet6_back (V4 octets) x is = absurd is
inet6_back (V6 fields) x is = (fields, is, refl)

inet4_read : (text : List ℕ) → IsAnswer IsInet4Ip text (read_inet4_ip text)
unfolding read_inet4_ip
inet4_read text = image_answer V4 IsInet4Text IsInet4Ip text _ (record { forth = λ a x is. is; back = inet4_back }) (answers IsInet4Text step_inet4 at_end_inet4 (fresh Zero) text reads_inet4)

inet6_read : (text : List ℕ) → IsAnswer IsInet6Ip text (read_inet6_ip text)
unfolding read_inet6_ip
inet6_read text = image_answer V6 IsInet6Text IsInet6Ip text _ (record { forth = λ a x is. is; back = inet6_back }) (answers IsInet6Text step_inet6 at_end_inet6 start_inet6 text reads_inet6)

apart : (a b : Ip) (x : List ℕ) → IsInet4Ip a x → IsInet6Ip b x → ⊥
apart a b x is also =
    let (octets, of_octets, same) = inet4_back a x is in
    let (fields, of_fields, alike) = inet6_back b x also in
    let (s, runs, gives) = reads_inet6.accepts fields x of_fields in
    let none = not_inet4 octets x of_octets in cc

all_left : (a : Ip) (x : List ℕ) → IsInet4Ip a x → IsIpText a x
all_left (V4 octets) x is = is
all_left (V6 fields) x is = absurd is

all_right : (a : Ip) (x : List ℕ) → IsInet6Ip a x → IsIpText a x
all_right (V4 octets) x is = absurd is
all_right (V6 fields) x is = is

all_back : (a : Ip) (x : List ℕ) → IsIpText a x → IsInet4Ip a x ⊎ IsInet6Ip a x
all_back (V4 octets) x is = inl is
all_back (V6 fields) x is = inr is

pub ip_answers : (text : List ℕ) → IsAnswerWith (λ (e : AddressError). e.place) IsIpText text (ip_answer text)
unfolding ip_answer
ip_answers text =
    let all = union_answer IsInet4Ip IsInet6Ip IsIpText text (read_inet4_ip text) (read_inet6_ip text) (record { left = all_left; right = all_right; back = all_back; apart = apart }) (inet4_read text) (inet6_read text) in
    error_answer (λ place. record { place = place }) (λ (e : AddressError). e.place) IsIpText text _ (λ place. refl) all
