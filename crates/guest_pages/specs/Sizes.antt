-- How many bytes an access touches.
-- Source: the project's own.
use Rattle.std.specs.Prelude.{ℕ}
use Rattle.guest_pages.specs.declared.width.Width.{Width}
use Rattle.guest_pages.specs.declared.width.Width.TheVariants.{One, Two, Four, Eight}

abbrev pub size_of : Width → ℕ
size_of One = 1
size_of Two = 2
size_of Four = 4
size_of Eight = 8
