-- `book_lookup::lookup::value_count` meets its contract, by LookupLaws. Assumes nothing.
use Rattle.book_lookup.proofs.LookupLaws.{lookup_laws}
use Rattle.book_lookup.proofs.lookup.value_count.Goals as goal

pub returns-then-lookup-eq1 : goal.returns-then-lookup-eq1
returns-then-lookup-eq1 c = search lookup_laws

pub overflow_mul-result : goal.overflow_mul-result
overflow_mul-result c = search lookup_laws

pub returns : goal.returns
returns c = search lookup_laws
