-- How one step of a disk follows another.
use Rattle.std.proofs.Common.{inl, inr, ⊎_elim, ◌∙◌, arith}
use Rattle.sudoers_place.specs.Disk.{Image, Story, SameBut, IsStep, GoesOn}
use Rattle.sudoers_place.proofs.Paths.{AreIn}

-- two steps, as one: what the second may start from is known of what a crash may leave between them
module _ (R S T : Image → Image → Type 0) (a b c : Story) (now : b.may_leave b.seen) (one : (d e : Image) → R d e → T d e) (both : (d e f : Image) → b.may_leave e → R d e → S e f → T d f) where
  joined : IsStep R a b → (f : Image) → ((e : Image) × b.may_leave e × S e f) → (d : Image) × a.may_leave d × T d f
  joined first f at = let from = first.leaves at.0 at.1 in (from.0, from.1, both from.0 at.0 f at.1 from.2 at.2)

  pub step_followed : IsStep R a b → IsStep S b c → IsStep T a c
  step_followed first second = record {
    later = omega (arith, first.later, second.later);
    shown = both a.seen b.seen c.seen now first.shown second.shown;
    leaves = λ f left. joined first f (second.leaves f left);
    since = λ t f le left. ⊎_elim (λ before. ⊎_elim (λ was. inl was) (λ at. inr (at.0, at.1, one at.0 f at.2)) (first.since t f le before)) (λ at. inr (joined first f at)) (second.since t f (omega (arith, le, first.later)) left);
    keeps = λ t f le left. second.keeps t f (omega (arith, le, first.later)) (first.keeps t f le left);
  }

-- the same, where what the steps lead to may rest on what is known
pub followed : (R S T : Image → Image → Type 0) (a b c : Story) → b.may_leave b.seen → GoesOn R a b → GoesOn S b c → (a.is_known → (d e : Image) → R d e → T d e) → (a.is_known → (d e f : Image) → b.may_leave e → R d e → S e f → T d f) → GoesOn T a c
followed R S T a b c now first second one both = record {
  known = ((λ k. second.known.0 (first.known.0 k)), λ k. first.known.1 (second.known.1 k));
  counted = omega (arith, first.counted, second.counted);
  is_step = λ k. step_followed R S T a b c now (one k) (both k) (first.is_step k) (second.is_step (first.known.0 k));
}

-- the same step, said with less
pub step_loosened : (R T : Image → Image → Type 0) (a b : Story) → ((d e : Image) → R d e → T d e) → IsStep R a b → IsStep T a b
step_loosened R T a b one first = record {
  later = first.later;
  shown = one a.seen b.seen first.shown;
  leaves = λ f left. let from = first.leaves f left in (from.0, from.1, one from.0 f from.2);
  since = λ t f le left. ⊎_elim (λ was. inl was) (λ at. inr (at.0, at.1, one at.0 f at.2)) (first.since t f le left);
  keeps = first.keeps;
}

pub loosened : (R T : Image → Image → Type 0) (a b : Story) → GoesOn R a b → (a.is_known → (d e : Image) → R d e → T d e) → GoesOn T a b
loosened R T a b goes one = record {
  known = goes.known;
  counted = goes.counted;
  is_step = λ k. step_loosened R T a b (one k) (goes.is_step k);
}

pub same_more : (few many : _) → AreIn few many → (d e : Image) → SameBut few d e → SameBut many d e
same_more few many within d e same path not_in = same path (within path not_in)

pub same_both : (few some many : _) → AreIn few many → AreIn some many → (d e f : Image) → SameBut few d e → SameBut some e f → SameBut many d f
same_both few some many in_few in_some d e f first second path not_in = second path (in_some path not_in) ∙ first path (in_few path not_in)

-- two steps that each leave other paths alone
pub same_steps : (few some many : _) (a b c : Story) → b.may_leave b.seen → (a.is_known → AreIn few many) → (a.is_known → AreIn some many) → GoesOn (SameBut few) a b → GoesOn (SameBut some) b c → GoesOn (SameBut many) a c
same_steps few some many a b c now in_few in_some first second =
    followed (SameBut few) (SameBut some) (SameBut many) a b c now first second (λ known. same_more few many (in_few known)) (λ known d e f _ r s. same_both few some many (in_few known) (in_some known) d e f r s)

pub same_goes_on : (few many : _) (a b : Story) → AreIn few many → GoesOn (SameBut few) a b → GoesOn (SameBut many) a b
same_goes_on few many a b within goes = loosened (SameBut few) (SameBut many) a b goes (λ _. same_more few many within)
