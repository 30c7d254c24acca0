-- `fields::field::is_width` meets its contract: the two tests are those of `is_width`.
use borrow.Author.Tests.{le-leb, lt-leb}
use Rattle.fields.specs.Width.{is_width}
use Rattle.fields.proofs.field.is_width.Goals as goal

pub returns-then-width-le8 : goal.returns-then-width-le8
unfolding is_width
returns-then-width-le8 c = rw (le-leb _ 8 c.if-width-le8.true)

pub returns-else-width-le8 : goal.returns-else-width-le8
unfolding is_width
returns-else-width-le8 c = rw (lt-leb _ 8 c.if-width-le8.false)
