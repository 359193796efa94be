use Rattle.problem.proofs.Rendered.{reads_the_listing_lem}
use Rattle.problem.proofs.laws.reads_the_listing.Goals as goal

pub returns : goal.returns
returns c = record { listings_are_read_back = reads_the_listing_lem }
