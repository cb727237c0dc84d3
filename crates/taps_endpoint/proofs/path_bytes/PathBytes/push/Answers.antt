use Rattle.taps_endpoint.proofs.PathBuffers.{push_padded}
use Rattle.taps_endpoint.proofs.path_bytes.PathBytes.push.Goals as goal

pub invariant_of-self : goal.invariant_of-self
invariant_of-self c = push_padded c.self.inside.bytes c.self.inside.count c.args.byte c.self.invariant (rw c.self.view_is c.requires.room) c.requires.visible
