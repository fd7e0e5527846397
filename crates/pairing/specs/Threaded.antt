-- The cage of a value with its threads.
use Rattle.rules.specs.Cage.{Cage}
use Rattle.decoding.specs.Decoded.{decoded}
use Rattle.pairing.specs.declared.threaded.Threaded.{Threaded}

abbrev pub threaded : Threaded → Cage
threaded t = decoded t.vertices t.triangles t.corners.now
