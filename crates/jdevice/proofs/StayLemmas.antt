-- What stays of a device's image, and what it shows.
use Rattle.std.proofs.Common.{◌≡◌, ◌∙◌, ℕ, ◌-◌, List, [], ◌∷◌, length, map, take, drop, refl, sym, ap, ap₂, subst, arith}
use Rattle.std.specs.Prelude.{Contains}
use Rattle.std.specs.List.{AllByRecursion}
use Rattle.std.proofs.lemmas.List.{take_all}
use Rattle.jnode.specs.declared.order.Endian.{Endian}
use Rattle.jsteps.specs.Steps.{bytes, after}
use Rattle.jsteps.specs.declared.op.Op.{Op}
use Rattle.jview.specs.Through.{MountsThroughAs}
use Rattle.jlog.specs.HeadlineThrough.{state_through}
use Rattle.jrests.specs.Left.{IsLeftOfShares, SharesAreLeft, all_bytes}
use Rattle.jrests.specs.Shares.{Share, output_to, shares, taken_from}
use Rattle.jrests.specs.declared.opening.Opening.{Opening}
use Rattle.jopenings.specs.After.{output_to_all}
use Rattle.jopenings.specs.Placed.{placed_image}
use Rattle.jopenings.specs.Stretches.{image_with}
use Rattle.jopenings.proofs.AfterLemmas.{bytes_are_counted}
use Rattle.jopenings.proofs.StretchLemmas.{image_with_shares_is_left}
use Rattle.jdevice.specs.Laws.{DeviceShowsAccepted, DeviceStaysOutside, HasFrontOf, StaysOutside}
use Rattle.jdevice.specs.Run.{DeviceDone, IsDeviceRun, device_image, openings_planned, steps_on_device}
use Rattle.jdevice.specs.declared.running.DevicePlan.{DevicePlan}
use Rattle.jdevice.proofs.TakenLemmas.{taken_are_openings}

-- shares go to the blocks of their openings
same_blocks : (size : ℕ) (row : List Opening) (forms : List (List ℕ)) → map (λ (share : Share). share.0.block) (shares size row forms) ≡ map (λ (o : Opening). o.block) row
same_blocks size [] forms = refl
same_blocks size (o ∷ row) forms = ap (λ (l : List ℕ). o.block ∷ l) (same_blocks size row (drop (taken_from size o.place forms) forms))

fronts_stay : (e : Endian) (size k : ℕ) (base image : List ℕ) (row : List Opening) (forms : List (List ℕ)) → SharesAreLeft e size base (shares size row forms) k image
    → AllByRecursion (HasFrontOf size image base) row
fronts_stay e size k base image [] forms left = tt
fronts_stay e size k base image (o ∷ row) forms left =
    let n : ℕ = taken_from size o.place forms in
    (left.0.stays, fronts_stay e size (k - length (output_to e size (o, take n forms))) base image row (drop n forms) left.1)

stays_outside : (e : Endian) (size blocks k : ℕ) (base image : List ℕ) (row : List Opening) (forms : List (List ℕ)) → IsLeftOfShares e size blocks base (shares size row forms) k image
    → StaysOutside size base row image
stays_outside e size blocks k base image row forms left = record {
  others = λ b out. left.stays b (λ there. out (subst (λ (l : List ℕ). Contains l b) (same_blocks size row forms) there));
  fronts = fronts_stay e size k base image row forms left.written;
}

-- the image with all that went out
pub device_placed : (e : Endian) (on : DevicePlan) (image : List ℕ) (ops : List Op) (run : DeviceDone) → (is : IsDeviceRun e on image ops run)
    → device_image on image run ≡ placed_image e on.flash.geometry.block on.flash.blocks image (openings_planned e on image) is.forms
    (all_bytes e on.flash.geometry.block (shares on.flash.geometry.block (openings_planned e on image) is.forms))
device_placed e on image ops run is =
    let size : ℕ = on.flash.geometry.block in
    let row : List Opening = openings_planned e on image in
    let ss : List Share = shares size row is.forms in
    let k : ℕ = all_bytes e size ss in
    let all : take k (output_to_all e size ss) ≡ output_to_all e size ss = take_all k (output_to_all e size ss) (omega (arith, bytes_are_counted e size row is.forms)) in
    ap₂ (image_with size on.flash.blocks image) is.stretches_are (is.bytes_are ∙ sym all)

pub device_stays_outside : DeviceStaysOutside
device_stays_outside e on image ops run size_is within is =
    let size : ℕ = on.flash.geometry.block in
    let blocks : ℕ = on.flash.blocks in
    let row : List Opening = openings_planned e on image in
    subst (StaysOutside size image row) (sym (device_placed e on image ops run is))
    (stays_outside e size blocks _ image _ row is.forms (image_with_shares_is_left e size blocks _ image row is.forms size_is within (taken_are_openings on.tail e size blocks image)))

pub device_shows_accepted : DeviceShowsAccepted
device_shows_accepted e on image ops run is =
    let size : ℕ = on.flash.geometry.block in
    subst (λ (l : List ℕ). MountsThroughAs e size l (after bytes (state_through e size image) (steps_on_device e on image (take run.accepted ops)))) (sym (device_placed e on image ops run is)) is.survives.whole
