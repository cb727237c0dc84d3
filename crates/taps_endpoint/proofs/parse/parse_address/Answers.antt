use Rattle.taps_endpoint.proofs.AddressAnswers.{address_answers}
use Rattle.taps_endpoint.proofs.parse.parse_address.Goals as goal

pub returns-clause-found : goal.returns-clause-found
returns-clause-found c = rw c.find_address.ensures (address_answers c.args.text.now).found

pub returns-clause-only : goal.returns-clause-only
returns-clause-only c = rw c.find_address.ensures (address_answers c.args.text.now).only

pub returns-clause-place : goal.returns-clause-place
returns-clause-place c = rw c.find_address.ensures (address_answers c.args.text.now).place
