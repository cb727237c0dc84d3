use Rattle.taps_endpoint.proofs.IpAnswers.{ip_answers}
use Rattle.taps_endpoint.proofs.parse.parse_ip.Goals as goal

pub returns-clause-found : goal.returns-clause-found
returns-clause-found c = rw c.find_ip.ensures (ip_answers c.args.text.now).found

pub returns-clause-only : goal.returns-clause-only
returns-clause-only c = rw c.find_ip.ensures (ip_answers c.args.text.now).only

pub returns-clause-place : goal.returns-clause-place
returns-clause-place c = rw c.find_ip.ensures (ip_answers c.args.text.now).place
