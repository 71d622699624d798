-- One more entry in the log of a disk in memory.
use Rattle.std.proofs.Common.{◌≡◌, ◌≢◌, ◌⊎◌, inl, inr, ⊎_elim, ℕ, zero, suc, ◌+◌, ◌≤◌, ◌<◌, Bool, true, false, if◌then◌else◌, List, [], ◌∷◌, ◌++◌, length, Option, None, refl, sym, ◌∙◌, ap, subst, arith, length-append}
use Rattle.std.specs.Str.{bytes_eq}
use Rattle.std.proofs.lemmas.List.{take_all, take-append-le}
use Rattle.std.proofs.lemmas.Slice.Eq.{bytes_eq-Decides}
use Rattle.std.proofs.lemmas.Bool.{false_from_ne_true}
use Rattle.sudoers_place.specs.declared.memory.Entry.{Entry}
use Rattle.sudoers_place.specs.Disk.{File, Image, SameBut, GoesOn, IsReplacedOrNot, free_paths, with_path_if_free}
use Rattle.sudoers_place.specs.Memory.{LogGoesOn, file_if, look, image_of, story_of}
use Rattle.sudoers_place.proofs.Steps.{step_followed, step_loosened}

-- ---- what is looked up

look_push : (log : List Entry) (e : Entry) (path : List ℕ) (was : Option File) → look (log ++ e ∷ []) path was ≡ (if bytes_eq e.path.items path then file_if e.file else look log path was)
look_push [] e path was = refl
look_push (x ∷ log) e path was = look_push log e path (if bytes_eq x.path.items path then file_if x.file else was)

pub pushed_here : (log : List Entry) (e : Entry) → image_of (log ++ e ∷ []) e.path.items ≡ file_if e.file
pushed_here log e =
    let is : bytes_eq e.path.items e.path.items ≡ true = (bytes_eq-Decides e.path.items e.path.items).1 refl in
    look_push log e e.path.items None ∙ ap (λ (b : Bool). if b then file_if e.file else look log e.path.items None) is

pub pushed_other : (log : List Entry) (e : Entry) (path : List ℕ) → path ≢ e.path.items → image_of (log ++ e ∷ []) path ≡ image_of log path
pushed_other log e path ne =
    let is : bytes_eq e.path.items path ≡ false = false_from_ne_true (bytes_eq e.path.items path) (λ same. ne (sym ((bytes_eq-Decides e.path.items path).0 same))) in
    look_push log e path None ∙ ap (λ (b : Bool). if b then file_if e.file else look log path None) is

-- where the log is given as the rest and the last
pub found_before : (log rest : List Entry) (last : Entry) (path : List ℕ) → log ≡ rest ++ last ∷ [] → bytes_eq last.path.items path ≡ false → image_of rest path ≡ image_of log path
found_before log rest last path is differs = sym (ap (λ (l : List Entry). image_of l path) is ∙ look_push rest last path None ∙ ap (λ (b : Bool). if b then file_if last.file else look rest path None) differs)

pub found_here : (log rest : List Entry) (last : Entry) (path : List ℕ) → log ≡ rest ++ last ∷ [] → bytes_eq last.path.items path ≡ true → file_if last.file ≡ image_of log path
found_here log rest last path is same = sym (ap (λ (l : List Entry). image_of l path) is ∙ look_push rest last path None ∙ ap (λ (b : Bool). if b then file_if last.file else look rest path None) same)

pub pushed_said : (log later : List Entry) (e : Entry) (path : List ℕ) → later ≡ log ++ e ∷ [] → e.path.items ≡ path → image_of later path ≡ file_if e.file
pushed_said log later e path is named = ap (λ (n : List ℕ). image_of later n) (sym named) ∙ ap (λ (l : List Entry). image_of l e.path.items) is ∙ pushed_here log e

pub apart_from : (a b : List ℕ) → bytes_eq a b ≡ false → a ≢ b
apart_from a b differs same = let equal : bytes_eq a b ≡ true = (bytes_eq-Decides a b).1 same in cc

-- ---- how the log goes on

le_or_lt : (k n : ℕ) → (k ≤ n) ⊎ (n < k)
le_or_lt zero n = inl (omega arith)
le_or_lt (suc k) zero = inr (omega arith)
le_or_lt (suc k) (suc n) = ⊎_elim (λ h. inl (omega arith)) (λ h. inr (omega arith)) (le_or_lt k n)

pub stays : (step : Image → Image → Type 0) (log : List Entry) → ((d : Image) → step d d) → LogGoesOn step log log
stays step log same n m = record {
  later = omega arith;
  shown = same (image_of log);
  leaves = λ c left. (c, left, same c);
  since = λ t c le left. inl left;
  keeps = λ t c le left. left;
}

pub pushes : (log : List Entry) (e : Entry) → LogGoesOn (IsReplacedOrNot (e.path.items ∷ []) e.path.items (file_if e.file)) log (log ++ e ∷ [])
pushes log e n m = record {
  later = omega (arith, size);
  shown = here (image_of (log ++ e ∷ [])) (λ path. refl);
  leaves = λ c left. (image_of log, (λ path. refl), here c left);
  since = λ t c le left. ⊎_elim
      (λ (low : left.0 ≤ length log). inl (left.0, left.1, low, λ path. left.3 path ∙ ap (λ (l : List Entry). image_of l path) (take-append-le left.0 log (e ∷ []) low)))
      (λ (high : length log < left.0). inr (image_of log, (λ path. refl), here c (λ path. left.3 path ∙ ap (λ (l : List Entry). image_of l path) (take_all left.0 (log ++ e ∷ []) (omega (arith, size, high))))))
      (le_or_lt left.0 (length log));
  keeps = λ t c le left. (left.0, left.1, omega (arith, size, left.2), λ path. left.3 path ∙ ap (λ (l : List Entry). image_of l path) (sym (take-append-le left.0 log (e ∷ []) left.2)));
}
  where
    size : length (log ++ e ∷ []) ≡ length log + 1
    size = length-append log (e ∷ [])

    here : (c : Image) → ((path : List ℕ) → c path ≡ image_of (log ++ e ∷ []) path) → IsReplacedOrNot (e.path.items ∷ []) e.path.items (file_if e.file) (image_of log) c
    here c is = record {
      others = λ path not_in. is path ∙ pushed_other log e path not_in.0;
      whole = inr (is e.path.items ∙ pushed_here log e);
    }

-- one entry for this path
pub pushes_to : (log later : List Entry) (e : Entry) (path : List ℕ) → later ≡ log ++ e ∷ [] → e.path.items ≡ path → LogGoesOn (IsReplacedOrNot (path ∷ []) path (file_if e.file)) log later
pushes_to log later e path is named =
    let one : LogGoesOn (IsReplacedOrNot (e.path.items ∷ []) e.path.items (file_if e.file)) log later = subst (λ (l : List Entry). LogGoesOn (IsReplacedOrNot (e.path.items ∷ []) e.path.items (file_if e.file)) log l) (sym is) (pushes log e) in
    subst (λ (n : List ℕ). LogGoesOn (IsReplacedOrNot (n ∷ []) n (file_if e.file)) log later) named one

pub not_pushed : (log later : List Entry) (paths : List (List ℕ)) (path : List ℕ) (file : Option File) → later ≡ log → LogGoesOn (IsReplacedOrNot paths path file) log later
not_pushed log later paths path file is = subst (λ (l : List Entry). LogGoesOn (IsReplacedOrNot paths path file) log l) (sym is) (stays (IsReplacedOrNot paths path file) log (λ d. record { others = λ n not_in. refl; whole = inl refl }))

pub nothing_done : (log : List Entry) (paths : List (List ℕ)) → LogGoesOn (SameBut paths) log log
nothing_done log paths = stays (SameBut paths) log (λ d path not_in. refl)

only_path : (log later : List Entry) (path : List ℕ) (file : Option File) → LogGoesOn (IsReplacedOrNot (path ∷ []) path file) log later → LogGoesOn (SameBut (path ∷ [])) log later
only_path log later path file goes n m = step_loosened (IsReplacedOrNot (path ∷ []) path file) (SameBut (path ∷ [])) (story_of log n) (story_of later m) (λ d e r. r.others) (goes n m)

-- a file is put where none was
pub only_free : (log later : List Entry) (path : List ℕ) (file : Option File) → image_of log path ≡ None → LogGoesOn (IsReplacedOrNot (path ∷ []) path file) log later → LogGoesOn (SameBut (free_paths (image_of log) (path ∷ []))) log later
only_free log later path file none goes = subst (λ (found : Option File). LogGoesOn (SameBut (with_path_if_free found path [])) log later) (sym none) (only_path log later path file goes)

-- a file is put under one path, and then another path is emptied
pub moves_one : (from to : List ℕ) (file moved : Option File) (a b : List Entry) → file ≡ moved → LogGoesOn (IsReplacedOrNot (to ∷ []) to file) a b → LogGoesOn (IsReplacedOrNot (from ∷ to ∷ []) to moved) a b
moves_one from to file moved a b is goes n m = step_loosened (IsReplacedOrNot (to ∷ []) to file) (IsReplacedOrNot (from ∷ to ∷ []) to moved) (story_of a n) (story_of b m) (λ d e r. record { others = λ path not_in. r.others path not_in.1; whole = ⊎_elim (λ old. inl old) (λ new. inr (new ∙ is)) r.whole }) (goes n m)

pub moves_both : (from to : List ℕ) (file moved : Option File) (a b c : List Entry) → file ≡ moved → to ≢ from → LogGoesOn (IsReplacedOrNot (to ∷ []) to file) a b → LogGoesOn (IsReplacedOrNot (from ∷ []) from None) b c → LogGoesOn (IsReplacedOrNot (from ∷ to ∷ []) to moved) a c
moves_both from to file moved a b c is apart first second n m =
    step_followed (IsReplacedOrNot (from ∷ to ∷ []) to moved) (IsReplacedOrNot (from ∷ []) from None) (IsReplacedOrNot (from ∷ to ∷ []) to moved) (story_of a n) (story_of b n) (story_of c m) (λ path. refl) (λ d e r. r)
    (λ d e f _ r s. record {
      others = λ path not_in. s.others path (not_in.0, tt) ∙ r.others path not_in;
      whole = ⊎_elim (λ old. inl (s.others to (apart, tt) ∙ old)) (λ new. inr (s.others to (apart, tt) ∙ new)) r.whole;
    })
    (moves_one from to file moved a b is first n n) (second n m)

-- the disk goes on as its log does
pub log_goes_on : (step : Image → Image → Type 0) (a b : List Entry) (n m : ℕ) → n ≤ m → LogGoesOn step a b → GoesOn step (story_of a n) (story_of b m)
log_goes_on step a b n m le goes = record {
  known = ((λ u. u), λ u. u);
  counted = le;
  is_step = λ _. goes n m;
}
