use Rattle.aoe_world.proofs.PlaceLemmas.{found-place}
use Rattle.aoe_world.proofs.place.place_of.Goals as goal

pub returns-in-Some : goal.returns-in-Some
returns-in-Some c s majors stations are = rw (← c.in-Some.ensures) at (found-place s majors c.args.name.now stations c.args.places.now are)

pub returns-in-None : goal.returns-in-None
returns-in-None c s majors stations are = rw (← c.in-None.ensures) at (found-place s majors c.args.name.now stations c.args.places.now are)
