-- What goes out through a buffer.
use Rattle.std.proofs.Common.{◌≡◌, ◌∙◌, ℕ, List, [], Option, Some, None, Result, Ok, Err, ap, arith, length, refl, subst, sym, take, take_all}
use Rattle.std.specs.Prelude.{IfErr, OnOk}
use Rattle.std.specs.Io.KnownBytes.{Appends, Keeps, append_known}
use Rattle.std.proofs.KnownBytes.{Appends-nil}
use Rattle.std.proofs.lemmas.List.{take_at}
use Rattle.flashbase.specs.Device.{PutsPart}
use Rattle.jsystem.specs.Outputs.{GoesOutInPart, IsBegunBy}

-- an output with a buffer behind it
pub behind_buffer : (known : Option (List ℕ)) (kept : List ℕ) → IsBegunBy known (append_known known kept)
behind_buffer None kept = tt
behind_buffer (Some xs) kept = (length xs, ap (λ (l : List ℕ). Some l) (sym (take_at xs kept (length xs) refl)))

pub begun_before : (given mid taken : Option (List ℕ)) → Keeps mid taken → IsBegunBy given taken → IsBegunBy given mid
begun_before given None taken kept part = tt
begun_before given (Some xs) None kept part = absurd kept
begun_before given (Some xs) (Some ys) kept part = (part.0, part.1 ∙ ap (λ (l : List ℕ). Some (take part.0 l)) kept)

pub none_put : (old : Option (List ℕ)) (bytes : List ℕ) → PutsPart old old bytes
none_put old bytes = (0, Appends-nil old)

pub appended_kept : (a b c : Option (List ℕ)) (bytes : List ℕ) → Appends a b bytes → Keeps b c → Appends a c bytes
appended_kept None b c bytes put kept = tt
appended_kept (Some xs) None c bytes put kept = absurd put
appended_kept (Some xs) (Some ys) None bytes put kept = absurd kept
appended_kept (Some xs) (Some ys) (Some zs) bytes put kept = kept ∙ put

put_so_far : {T E : Type 0} (old mid : Option (List ℕ)) (bytes : List ℕ) (r : Result T E) → OnOk r (Appends old mid bytes) → IfErr r (λ _. PutsPart old mid bytes) → PutsPart old mid bytes
put_so_far old mid bytes (Ok x) all part = (length bytes, subst (Appends old mid) (sym (take_all (length bytes) bytes (omega arith))) all)
put_so_far old mid bytes (Err e) all part = part

-- a text was put as far as that came to, and given on as far as that did
pub out_in_part : {T E : Type 0} (old mid taken given : Option (List ℕ)) (bytes : List ℕ) (r : Result T E) → OnOk r (Appends old mid bytes) → IfErr r (λ _. PutsPart old mid bytes)
    → Keeps mid taken → IsBegunBy given taken → GoesOutInPart old given bytes
out_in_part old mid taken given bytes r all part kept begun = (mid, put_so_far old mid bytes r all part, begun_before given mid taken kept begun)
