use Rattle.taps_endpoint.proofs.WrittenTexts.{inet4_again, inet6_again, unix_again}
use Rattle.taps_endpoint.proofs.canonical.write_address.Goals as goal

pub returns-in-V4-clause-again : goal.returns-in-V4-clause-again
returns-in-V4-clause-again c = rw c.in-V4.is (inet4_again _ _ _ c.write_inet4.ensures.again)

pub returns-in-V6-clause-again : goal.returns-in-V6-clause-again
returns-in-V6-clause-again c = rw c.in-V6.is (inet6_again _ _ _ c.write_inet6.ensures.again)

pub returns-in-Unix-clause-again : goal.returns-in-Unix-clause-again
returns-in-Unix-clause-again c = rw c.in-Unix.is (unix_again _ _ c.write_unix.ensures.again)
