-- What taking a signal does to the process.
-- Source: signal(7). All signals today are those of faults: the default action of each is to end the process.
use Rattle.guest_core.specs.declared.ends.End.{End}
use Rattle.guest_core.specs.declared.ends.End.TheVariants.{Killed}
use Rattle.host_calls.specs.declared.queue.Instance.{Instance}

-- its default action ends the process
abbrev pub end_of_taking : Instance → End
end_of_taking instance = Killed instance.fault.signal
