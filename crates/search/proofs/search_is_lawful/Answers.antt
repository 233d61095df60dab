use Rattle.search.proofs.Item.{search_is_lawful, next_tells_the_nearest}
use Rattle.search.proofs.search_is_lawful.Goals as goal

pub returns : goal.returns
returns c = record { lawful = search_is_lawful; nearest = next_tells_the_nearest }
