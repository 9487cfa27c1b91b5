use Rattle.std.proofs.Common.{refl}
use Rattle.guest_pages.proofs.ApartFacts.{apart_placed, apart_protected, apart_written}
use Rattle.isa_step.proofs.RunFacts.{nothing_apart}
use Rattle.isa_step.proofs.tests.code.Goals as goal

pub returns : goal.returns
returns c =
    rw c.in_ok-protect.ensures.ok (apart_protected _ _ _ _ refl (rw c.in_ok-store.ensures.ok (apart_written _ _ _ (rw c.in_ok-map.ensures.ok (apart_placed _ _ _ _ refl (rw c.new-pages.ensures nothing_apart))))))
