use Rattle.std.proofs.Common.{◌≡◌, ◌++◌, true, false}
use Rattle.std.specs.Str.{bytes_eq}
use Rattle.std.proofs.lemmas.Slice.Eq.{bytes_eq-Decides}
use Rattle.sudoers_place.specs.Disk.{IsNotIn}
use Rattle.sudoers_place.specs.Placing.{paths_of, temps_of}
use Rattle.sudoers_place.proofs.Apart.{no_for, not_temp, not_path, path_apart_more, path_apart_rest}
use Rattle.sudoers_place.proofs.Log.{apart_from}
use Rattle.sudoers_place.proofs.noting.+is_path_apart.Goals as goal
use Rattle.sudoers_place.proofs.noting.+is_path_apart.Goals.{then-eq-via-then-eq, then-eq-via-else-eq+then-eq-2}

pub returns-then-eq : goal.returns-then-eq
returns-then-eq t c = no_for _ (λ (h : IsNotIn c.args.path.now (temps_of c.args.changes.now ++ paths_of c.args.changes.now)).
    elim c.then-eq.branch [
      | then-eq-via-then-eq w ↦
          let is : bytes_eq c.args.path.now c.in-Some.change.now.temp.items ≡ true = cc in
          not_temp c.args.changes.now c.in-Some.change.now c.in-Some.rest.now c.in-Some.ensures.cases.0 c.args.path.now h ((bytes_eq-Decides _ _).0 is)
      | then-eq-via-else-eq+then-eq-2 w ↦
          let is : bytes_eq c.args.path.now c.in-Some.change.now.path.items ≡ true = cc in
          not_path c.args.changes.now c.in-Some.change.now c.in-Some.rest.now c.in-Some.ensures.cases.0 c.args.path.now h ((bytes_eq-Decides _ _).0 is)
    ])

pub returns : goal.returns
returns t c =
    let temp : bytes_eq c.args.path.now c.in-Some.change.now.temp.items ≡ false = cc in
    let other : bytes_eq c.args.path.now c.in-Some.change.now.path.items ≡ false = cc in (
      (λ yes. path_apart_more c.args.changes.now c.in-Some.change.now c.in-Some.rest.now c.in-Some.ensures.cases.0 c.args.path.now (apart_from _ _ temp) (apart_from _ _ other) (c.is_path_apart.ensures.0 yes)),
      λ h. c.is_path_apart.ensures.1 (path_apart_rest c.args.changes.now c.in-Some.change.now c.in-Some.rest.now c.in-Some.ensures.cases.0 c.args.path.now h),
    )
