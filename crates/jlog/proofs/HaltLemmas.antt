-- A session that was broken.
use Rattle.std.proofs.Common.{◌≡◌, ℕ, ◌<◌, List, [], ◌∷◌, length, Bool, Some, None, Result, Ok, Err, refl, sym, ◌∙◌, arith, ap}
use Rattle.std.specs.Prelude.{IsTrue, IsFalse, slice_get, option_map}
use Rattle.jsteps.specs.declared.op.Op.{Op}
use Rattle.jlog.specs.declared.fault.SessionFault.{SessionFault}
use Rattle.jlog.specs.declared.fault.SessionFault.TheVariants as fault

pub both_not : (b : Bool) → IsFalse b → IsTrue b → ⊥
both_not b isnt is = cc

fault_or : {T : Type 0} → SessionFault → Result T SessionFault → SessionFault
fault_or d (Ok _) = d
fault_or d (Err f) = f

pub same_fault : {T : Type 0} (r : Result T SessionFault) (f h : SessionFault) → r ≡ Err f → r ≡ Err h → f ≡ h
unfolding fault_or
same_fault r f h one other = ap (fault_or f) (sym one ∙ other)

-- it is stopped before the first operation,
pub halted_first : (ops : List Op) (n : ℕ) (f : SessionFault) → n ≡ 0 → n < length ops → f ≡ fault.Broken
    → Some f ≡ option_map (λ _. fault.Broken) (slice_get ops 0)
halted_first [] n f none below is = absurd (omega arith)
halted_first (o ∷ ops) n f none below is = ap Some is

-- and not at all where there is none
pub halted_none : (ops : List Op) (n : ℕ) → n ≡ 0 → n ≡ length ops → None ≡ option_map (λ (_ : Op). fault.Broken) (slice_get ops 0)
halted_none [] n none all = refl
halted_none (o ∷ ops) n none all = absurd (omega arith)
