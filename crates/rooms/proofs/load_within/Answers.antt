-- `rooms::load_within` meets its contract.
use Rattle.rooms.proofs.Room.{room_within}
use Rattle.rooms.proofs.load_within.Goals as goal

pub load_by-requires-clause-working_room : goal.load_by-requires-clause-working_room
load_by-requires-clause-working_room g c = room_within c.requires.vertices_within c.requires.sides_within
