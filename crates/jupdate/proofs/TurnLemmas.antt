-- The form of one of several steps.
use Rattle.std.proofs.Common.{◌≡◌, ℕ, ◌+◌, ◌<◌, ◌≤◌, List, length, take, get_or, sym, ap, subst, ◌∙◌, arith}
use Rattle.std.specs.List.{AllByRecursion}
use Rattle.jnode.specs.declared.order.Endian.{Endian}
use Rattle.jsteps.specs.Nodes.{Indexed, node_of, nodes_of, advanced_all}
use Rattle.jsteps.specs.declared.step.Step.{Step}
use Rattle.jlog.specs.Laws.{FitsBlock}
use Rattle.jlog.specs.Running.{node_len, CanWrite, CanWriteIn}
use Rattle.jlog.proofs.RoomCode.{len_at}
use Rattle.jlog.proofs.RunningLemmas.{can_at}
use Rattle.jpacked.specs.Forms.{form_len, form_with, step_forms, AreMadeOf, IsMadeOf}
use Rattle.jpacked.proofs.MadeLemmas.{made_at, made_forms, many_forms, many_nodes, form_at, long_at, short_at, forms_fit_blocks}
use Rattle.jpacked.proofs.RoomLemmas.{stream_short}

-- how long it is
pub record Turn (e : Endian) (x : Indexed) (steps : List Step) (streams : List (List ℕ)) (i : ℕ) (s : Step) (t : List ℕ) : Type 0 where
  pub under : i < length (step_forms e x steps streams)
  pub own : node_len s ≤ 16452
  pub packed : length t ≤ 16452
  pub small : form_len s t ≤ 16452
  pub long : form_len s t ≡ length (get_or (step_forms e x steps streams) i t)

pub all_forms : (e : Endian) (x : Indexed) (steps : List Step) (streams : List (List ℕ)) → AreMadeOf e (nodes_of x steps) streams → length (step_forms e x steps streams) ≡ length steps
all_forms e x steps streams made = many_forms e (nodes_of x steps) streams made ∙ many_nodes x steps

pub turn : (size : ℕ) (e : Endian) (x : Indexed) (steps : List Step) (streams : List (List ℕ)) (i : ℕ) (s : Step) (t : List ℕ) → CanWriteIn size e x steps → AreMadeOf e (nodes_of x steps) streams
    → i < length steps → s ≡ get_or steps i s → t ≡ get_or streams i t → Turn e x steps streams i s t
turn size e x steps streams i s t can made below is given =
    let same : form_len s t ≡ form_len (get_or steps i s) (get_or streams i t) = ap (λ (w : Step). form_len w t) is ∙ ap (form_len (get_or steps i s)) given in
    let small : form_len s t ≤ 16452 = omega (arith, same, short_at can.page e x steps streams i s t can.is_page can.can made below) in
    record {
      under = omega (arith, below, all_forms e x steps streams made);
      own = subst (λ (w : Step). node_len w ≤ 16452) (sym is) (len_at can.page e x steps i s can.is_page can.can below);
      packed = stream_short s t 16452 small;
      small = small;
      long = same ∙ sym (long_at e x steps streams i s t t made below);
    }

-- all of them fit blocks
pub all_fit_blocks : (size : ℕ) (e : Endian) (x : Indexed) (steps : List Step) (streams : List (List ℕ)) → CanWriteIn size e x steps → AreMadeOf e (nodes_of x steps) streams
    → AllByRecursion (FitsBlock size) (step_forms e x steps streams)
all_fit_blocks size e x steps streams can made =
    forms_fit_blocks can.page e size x steps (step_forms e x steps streams) can.is_page can.fits can.can (made_forms e (nodes_of x steps) streams made)

-- which one it is, after those before it
pub form_is : (e : Endian) (x y : Indexed) (steps : List Step) (streams : List (List ℕ)) (i : ℕ) (s : Step) (t f : List ℕ) → AreMadeOf e (nodes_of x steps) streams
    → i < length steps → s ≡ get_or steps i s → t ≡ get_or streams i t → y ≡ advanced_all x (take i steps) → form_with e (node_of y s) t ≡ get_or (step_forms e x steps streams) i f
form_is e x y steps streams i s t f made below is given y_is =
    ap (λ (w : Indexed). form_with e (node_of w s) t) y_is
    ∙ (ap (λ (w : Step). form_with e (node_of (advanced_all x (take i steps)) w) t) is
    ∙ (ap (form_with e (node_of (advanced_all x (take i steps)) (get_or steps i s))) given
    ∙ sym (form_at e x steps streams i s t f made below)))

-- its step can be written, and its data make it
pub can_next : (size : ℕ) (e : Endian) (x y : Indexed) (steps : List Step) (i : ℕ) (s : Step) → (can : CanWriteIn size e x steps) → i < length steps → s ≡ get_or steps i s → y ≡ advanced_all x (take i steps)
    → CanWrite can.page e y s
can_next size e x y steps i s can below is y_is =
    subst (λ (w : Step). CanWrite can.page e y w) (sym is)
    (subst (λ (w : Indexed). CanWrite can.page e w (get_or steps i s)) (sym y_is)
    (can_at can.page e x steps i s can.can below))

pub made_next : (e : Endian) (x y : Indexed) (steps : List Step) (streams : List (List ℕ)) (i : ℕ) (s : Step) (t : List ℕ) → AreMadeOf e (nodes_of x steps) streams
    → i < length steps → s ≡ get_or steps i s → t ≡ get_or streams i t → y ≡ advanced_all x (take i steps) → IsMadeOf e (node_of y s) t
made_next e x y steps streams i s t made below is given y_is =
    subst (λ (w : Indexed). IsMadeOf e (node_of w s) t) (sym y_is)
    (subst (λ (w : Step). IsMadeOf e (node_of (advanced_all x (take i steps)) w) t) (sym is)
    (subst (IsMadeOf e (node_of (advanced_all x (take i steps)) (get_or steps i s))) (sym given)
    (made_at e x steps streams i s t made below)))
