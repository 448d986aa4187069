-- The machine values of a handle. Assumes `Logic`.
use Rattle.std.proofs.Common.{◌≡◌, List, [], ◌∷◌, refl, true, false}
use mathlib.Core.Bool.{Bool, not}
use lib.Dec.{T}
use seplogic.Ra.Ura.{Ura}
use mir.Val.{Val, vbool, vstruct, vcons, vnil}
use types.Logic.{Logic}
use types.Kit.{Item, Goal, Step, step, ‵, ◌$◌, fjoin, fpack, feq_i}
use denote.RattleType.{RattleType, Valss}
use denote.Builtin.{RawPtr, bool}
use denote.RawPtr.{Ptr, ptr_val}
use denote.Steps.{nothing}
use denote.Struct.Struct.{within}
use denote.Struct.Owning.{shape}
use Rattle.std.specs.FinMap.{empty}
use Rattle.jmount.specs.Mount.{Mount}
use Rattle.jheld.specs.Owned.{held_owns}
use Rattle.jheld.specs.contracts.held.Handle as held
use Rattle.jheld.specs.declared.held.Handle.{Handle}

abbrev pub Row : RattleType
Row = held.the_row

-- what a handle that is closed is said to hold
abbrev pub nothing_mounted : Mount
nothing_mounted = record { image = []; state = record { objects = empty; names = empty; next = 0 }; tops = empty; findings = []; read_only = false }

abbrev pub word : Ptr → Bool → Val
word p o = vstruct (vcons (ptr_val p) (vcons (vbool o) vnil))

pub is_true : (b : Bool) → T b → b ≡ true
is_true true t = refl
is_true false t = absurd t

pub is_false : (b : Bool) → T (not b) → b ≡ false
is_false true t = absurd t
is_false false t = refl

module _ {M : Type 1} {𝓤 : Ura M} {𝓛 : Logic 𝓤} {K : Type 0} {Γ : List (Item 𝓤)} {G : Goal 𝓤 𝓛.H} where
  pub held_in : K → (d : Handle) → Step K 𝓛 (‵ (Row.own_val d (word d.at d.is_open ∷ [])) ∷ Γ) G (‵ (held_owns d.at d.is_open d.value) ∷ Γ) G
  held_in t d = step (λ s. let v : Val = word d.at d.is_open in
      nothing t $ feq_i t (List Val) (vbool d.is_open ∷ []) (vbool d.is_open ∷ []) refl $ fjoin t $ feq_i t (List Val) (ptr_val d.at ∷ []) (ptr_val d.at ∷ []) refl $ fjoin t $ feq_i t (List Val) (v ∷ []) (v ∷ []) refl $ fjoin t $
      fpack t (Valss (RawPtr ∷ bool ∷ [])) (within (shape held.the_type) (d.at, (d.is_open, tt)) (v ∷ [])) (ptr_val d.at ∷ [], (vbool d.is_open ∷ [], tt)) $ fjoin t $ s)
