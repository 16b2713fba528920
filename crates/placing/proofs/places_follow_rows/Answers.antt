use Rattle.placing.proofs.Standing.{latest_found, latest_none}
use Rattle.placing.proofs.Pushing.{places_movement, places_known, places_new}
use Rattle.placing.proofs.places_follow_rows.Goals as goal

pub returns : goal.returns
returns c = record { found = latest_found; none = latest_none; movement = places_movement; known = places_known; new = places_new }
