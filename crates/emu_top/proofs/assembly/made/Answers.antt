use Rattle.std.proofs.Common.{inr, List, ℕ, subst}
use Rattle.isa_asm.specs.File.{IsFaultOf}
use Rattle.emu_top.specs.Solo.{IsFileAt}
use Rattle.emu_top.proofs.assembly.made.Goals as goal

pub returns-in-Err-assembled-clause-refused : goal.returns-in-Err-assembled-clause-refused
returns-in-Err-assembled-clause-refused c = inr (inr (record {
  free = λ taken. c.in-Ok.ensures.free (rw (c.deref.ensures.value, c.as_str.ensures.same) taken);
  source = c.in-Ok-file_in.source;
  source_is = subst (λ (path : List ℕ). IsFileAt c.args.loaded.now.tree path c.in-Ok-file_in.source) c.as_str-2.ensures.same c.in-Ok-file_in.ensures.file;
  fault = c.in-Err-assembled.ensures.fault.0;
  why = subst (λ (bytes : List ℕ). IsFaultOf bytes c.in-Err-assembled.ensures.fault.0) c.bytes_of.ensures c.in-Err-assembled.ensures.fault.1;
  told = c.in-Err-assembled.ensures.fault.2;
}))
