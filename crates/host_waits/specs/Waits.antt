-- What is kept of a call that waits.
-- Source: read(2), write(2), futex(2), nanosleep(2), poll(2). That a wait keeps what the kernel copies at entry is Linux's:
-- the pieces of a vector and the descriptors that are polled; that a descriptor is looked up by its number at each step is the
-- project's own.
use Rattle.std.specs.Prelude.{ℕ, nat_le, Bool, false, List, [], Option, Some, None}
use Rattle.call_table.specs.declared.call.Call.{Call}
use Rattle.host_calls.specs.declared.pieces.Piece.{Piece}
use Rattle.host_calls.specs.Answers.{argument}
use Rattle.host_waits.specs.declared.wait.Polled.{Polled}
use Rattle.host_waits.specs.declared.wait.WaitKind.{WaitKind}

pub record Wait : Type 0 where
  pub call : Call
  pub kind : WaitKind
  -- in nanoseconds
  pub deadline : Option ℕ
  -- how many bytes a write has moved
  pub moved : ℕ
  -- between which a read or a write moves the bytes that are left
  pub pieces : List Piece
  -- the descriptors that are polled
  pub polled : List Polled

-- a read or a write waits, for these pieces
abbrev pub for_bytes : WaitKind → Call → List Piece → Wait
for_bytes kind call pieces = record { call = call; kind = kind; deadline = None; moved = 0; pieces = pieces; polled = [] }

-- a call waits up to a deadline
abbrev pub for_time : WaitKind → Call → Option ℕ → List Polled → Wait
for_time kind call deadline polled = record { call = call; kind = kind; deadline = deadline; moved = 0; pieces = []; polled = polled }

-- the descriptor of a read or a write
abbrev pub descriptor : Wait → ℕ
descriptor wait = argument 0 wait.call.args

-- a deadline is now, or was before
abbrev pub is_past : ℕ → Option ℕ → Bool
is_past clock None = false
is_past clock (Some at) = nat_le at clock
