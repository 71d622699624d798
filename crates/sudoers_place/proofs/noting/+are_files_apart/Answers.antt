use Rattle.std.proofs.Common.{◌≡◌, ◌++◌, true, false, IsTrue}
use Rattle.std.specs.Str.{bytes_eq}
use Rattle.std.proofs.lemmas.Slice.Eq.{bytes_eq-Decides}
use Rattle.sudoers_place.specs.Disk.{AreDistinct}
use Rattle.sudoers_place.specs.Placing.{paths_of, temps_of}
use Rattle.sudoers_place.proofs.Apart.{no_for, apart_more, apart_rest, temp_is_not_path, temp_apart, path_is_apart}
use Rattle.sudoers_place.proofs.Log.{apart_from}
use Rattle.sudoers_place.proofs.noting.+are_files_apart.Goals as goal
use Rattle.sudoers_place.proofs.noting.+are_files_apart.Goals.{then-is_path_apart, else-is_path_apart}

pub returns-then-eq : goal.returns-then-eq
returns-then-eq t c =
    let is : bytes_eq c.in-Some.change.now.temp.items c.in-Some.change.now.path.items ≡ true = cc in
    no_for _ (λ (h : AreDistinct (temps_of c.args.changes.now ++ paths_of c.args.changes.now)).
    temp_is_not_path c.args.changes.now c.in-Some.change.now c.in-Some.rest.now c.in-Some.ensures.cases.0 h ((bytes_eq-Decides _ _).0 is))

pub returns-then-is_path_apart-2 : goal.returns-then-is_path_apart-2
returns-then-is_path_apart-2 t c =
    let differs : bytes_eq c.in-Some.change.now.temp.items c.in-Some.change.now.path.items ≡ false = cc in (
      (λ yes. elim c.if-is_path_apart.branch [
        | then-is_path_apart w ↦ apart_more c.args.changes.now c.in-Some.change.now c.in-Some.rest.now c.in-Some.ensures.cases.0 (apart_from _ _ differs) (rw c.as_slice-temp.ensures.value at (c.is_path_apart.ensures.0 w.if-is_path_apart.true)) (rw c.as_slice-path.ensures.value at (w.is_path_apart-then-is_path_apart.ensures.0 (cc))) (c.are_files_apart.ensures.0 yes)
        | else-is_path_apart w ↦ cc
      ]),
      λ h. c.are_files_apart.ensures.1 (apart_rest c.args.changes.now c.in-Some.change.now c.in-Some.rest.now c.in-Some.ensures.cases.0 h),
    )

pub returns-else-is_path_apart-2 : goal.returns-else-is_path_apart-2
returns-else-is_path_apart-2 t c = (
  (λ (yes : IsTrue c.if-is_path_apart.value). cc),
  λ h. elim c.if-is_path_apart.branch [
    | then-is_path_apart w ↦
        let apart : w.is_path_apart-then-is_path_apart.result ≡ true = w.is_path_apart-then-is_path_apart.ensures.1 (rw c.as_slice-path.ensures.value (path_is_apart c.args.changes.now c.in-Some.change.now c.in-Some.rest.now c.in-Some.ensures.cases.0 h)) in
        cc
    | else-is_path_apart w ↦
        let apart : c.is_path_apart.result ≡ true = c.is_path_apart.ensures.1 (rw c.as_slice-temp.ensures.value (temp_apart c.args.changes.now c.in-Some.change.now c.in-Some.rest.now c.in-Some.ensures.cases.0 h)) in
        cc
  ],
)
