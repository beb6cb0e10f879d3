-- The numbers of a sheet's first line, as the code holds them. Assumes nothing.
use Rattle.sheet.specs.Sheet.{Heading, budget, gated}
use Rattle.sheet.specs.declared.head.Head.{Head}
use Rattle.sheet.specs.declared.head.Head.TheVariants.{Budget, Gated}

abbrev pub heading : Head → Heading
heading (Budget b) = budget b.allowance b.limit
heading (Gated c) = gated c.start
