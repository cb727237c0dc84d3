-- The `==` of addresses is their equality as the definitions say it.
use Rattle.std.proofs.Common.{◌≡◌, refl}
use Rattle.taps_endpoint.specs.declared.address.Address.{Address}
use Rattle.taps_endpoint.specs.declared.address.Address.TheVariants.{V4, V6, Unix}
use Rattle.taps_endpoint.specs.DerivedAddresses.{same_address}
use Rattle.taps_endpoint.specs.contracts.address.AddressPartialEq.TheImpl.{eq-value}

pub same : (a b : Address) → eq-value.it a b ≡ same_address a b
same (V4 octets port) (V4 others other) = refl
same (V4 octets port) (V6 others other) = refl
same (V4 octets port) (Unix other) = refl
same (V6 fields port) (V4 others other) = refl
same (V6 fields port) (V6 others other) = refl
same (V6 fields port) (Unix other) = refl
same (Unix path) (V4 others other) = refl
same (Unix path) (V6 others other) = refl
same (Unix path) (Unix other) = refl
