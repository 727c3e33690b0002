use Rattle.head_fields.proofs.Searches.{begun-search}
use Rattle.head_fields.proofs.search.HeaderSearch.begin.Goals as goal

pub returns : goal.returns
returns c front = begun-search front
