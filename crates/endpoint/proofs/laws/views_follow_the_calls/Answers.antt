use Rattle.endpoint.proofs.Following.{views_follow}
use Rattle.endpoint.proofs.laws.views_follow_the_calls.Goals as goal

pub returns : goal.returns
returns c = views_follow
