-- That an event keeps what is kept of every state and of the instructions that are remembered.
use Rattle.std.proofs.Common.{◌≡◌, List, Result, Ok, Err, Some, OnOk, OnErr, subst, sym}
use Rattle.guest_core.specs.declared.events.Event.{Event}
use Rattle.guest_pages.specs.Apart.{KeepsCode}
use Rattle.isa_step.specs.declared.decoder.Known.{Known}
use Rattle.isa_step.proofs.KnownFacts.{known_stays}
use Rattle.guest_core.specs.Event.{event_after}
use Rattle.guest_core.specs.Machine.{Machine}
use Rattle.guest_core.specs.Sound.{IsSound}
use Rattle.guest_core.proofs.EventsKeep.{event_goes, event_keeps}

pub event_code : (event : Event) (old new : Machine) (known : List Known) → IsSound old known → event_after old event ≡ Some new → KeepsCode old.shared.memory new.shared.memory
event_code event old new known sound is = (event_goes event old new sound.keeps is sound.apart).code

pub event_sound : (event : Event) (old new : Machine) (known : List Known) → IsSound old known → event_after old event ≡ Some new → IsSound new known
event_sound event old new known sound is =
    let stays = event_goes event old new sound.keeps is sound.apart in
    record {
      keeps = event_keeps event old new sound.keeps is;
      apart = stays.apart;
      right = known_stays old.shared.memory new.shared.memory known stays.code sound.right;
    }

-- also after a step that may want memory and leave the state
pub try_sound : {E : Type 0} (result : Result (Unit {0}) E) (event : Event) (old new : Machine) (known : List Known) → OnOk result (event_after old event ≡ Some new) → OnErr result (new ≡ old) → IsSound old known → IsSound new known
try_sound (Ok done) event old new known ok err sound = event_sound event old new known sound ok
try_sound (Err error) event old new known ok err sound = subst (λ (m : Machine). IsSound m known) (sym err) sound
