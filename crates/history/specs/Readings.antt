-- What a read gives, as the code answers it. Assumes nothing.
use Rattle.model.specs.Events as model
use Rattle.model.specs.Calls.{Reading}
use Rattle.history.specs.declared.events.Body.{Body}
use Rattle.history.specs.declared.events.Body.TheVariants.{Rotation, Blocker}
use Rattle.history.specs.declared.events.Rotation as code
use Rattle.history.specs.Phases.{label_of}

-- what is kept of a new event, as `model` has it
unfoldable pub body_of : Body → model.Body
body_of (Rotation tag sgn high low) = model.rotation tag sgn (label_of high low)
body_of Blocker = model.blocker

-- a reading as the code answers it
unfoldable pub rotation_of : Reading → code.Rotation
rotation_of r = record { tag = r.tag; sign = r.sgn; live = r.live }
