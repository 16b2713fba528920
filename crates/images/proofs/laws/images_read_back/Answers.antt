use Rattle.images.proofs.Written.{images_read_back}
use Rattle.images.proofs.laws.images_read_back.Goals as goal

pub returns : goal.returns
returns c = images_read_back
