-- Files in memory, and their folders.
use Rattle.std.proofs.Common.{◌≡◌, ℕ, ◌+◌, ◌≤◌, ◌==◌, ◌&&◌, min, Bool, true, false, if◌then◌else◌, List, [], ◌∷◌, ◌++◌, length, take, Some, inl, inr, refl, sym, ap, ◌∙◌, arith}
use Rattle.std.specs.Str.{bytes_eq}
use Rattle.std.proofs.lemmas.Bool.{cases_lt}
use Rattle.std.proofs.lemmas.List.{take_all, length-take}
use Rattle.sudoers_text.specs.Fault.{text_limit}
use Rattle.sudoers_tree.specs.declared.named_files.NamedFile.{NamedFile}
use Rattle.sudoers_files.specs.Shelf.{named_file_bytes_truncated_past_limit}

-- the first n bytes, or all of them if they are fewer
pub taking_at_most_length_is_taking : (bytes : List ℕ) (n : ℕ) → take (min (length bytes) n) bytes ≡ take n bytes
taking_at_most_length_is_taking bytes n = elim (cases_lt n (length bytes)) [
  | inl less ↦ ap (λ k. take k bytes) (let same : min (length bytes) n ≡ n = omega (arith, less) in same)
  | inr more ↦
      ap (λ k. take k bytes) (let same : min (length bytes) n ≡ length bytes = omega (arith, more) in same)
      ∙ take_all (length bytes) bytes (omega arith) ∙ sym (take_all n bytes more)
]

pub limited_bytes_are_within_text_limit : (name : List ℕ) (files : List NamedFile) (bytes : List ℕ) → named_file_bytes_truncated_past_limit name files ≡ Some bytes → length bytes ≤ text_limit + 1
limited_bytes_are_within_text_limit name [] bytes is = absurd cc
limited_bytes_are_within_text_limit name (file ∷ files) bytes is = by (bytes_eq name file.name) is (limited_bytes_are_within_text_limit name files bytes)
  where
    by : (t : Bool) → (if t then Some (take (text_limit + 1) file.bytes) else named_file_bytes_truncated_past_limit name files) ≡ Some bytes
        → (named_file_bytes_truncated_past_limit name files ≡ Some bytes → length bytes ≤ text_limit + 1) → length bytes ≤ text_limit + 1
    by true e later = let same : take (text_limit + 1) file.bytes ≡ bytes = cc in omega (arith, ap length same, length-take (text_limit + 1) file.bytes)
    by false e later = later e

-- the first file, if it has the name
pub limited_bytes_are_those_of_first_named_file : (name : List ℕ) (file : NamedFile) (files : List NamedFile) → bytes_eq name file.name ≡ true
    → named_file_bytes_truncated_past_limit name (file ∷ files) ≡ Some (take (text_limit + 1) file.bytes)
limited_bytes_are_those_of_first_named_file name file files is = ap (λ t. if t then Some (take (text_limit + 1) file.bytes) else named_file_bytes_truncated_past_limit name files) is

-- ---- bytes followed by one more

pub and_with_true_is_itself : (t : Bool) → (t && true) ≡ t
and_with_true_is_itself true = refl
and_with_true_is_itself false = refl

pub and_with_false_is_false : (t : Bool) → (t && false) ≡ false
and_with_false_is_false true = refl
and_with_false_is_false false = refl

and_is_associative : (t u v : Bool) → (t && (u && v)) ≡ ((t && u) && v)
and_is_associative true u v = refl
and_is_associative false u v = refl

empty_bytes_differ_from_nonempty : (bytes : List ℕ) (a : ℕ) → bytes_eq [] (bytes ++ a ∷ []) ≡ false
empty_bytes_differ_from_nonempty [] a = refl
empty_bytes_differ_from_nonempty (b ∷ bytes) a = refl

nonempty_bytes_differ_from_empty : (bytes : List ℕ) (a : ℕ) → bytes_eq (bytes ++ a ∷ []) [] ≡ false
nonempty_bytes_differ_from_empty [] a = refl
nonempty_bytes_differ_from_empty (b ∷ bytes) a = refl

pub equality_of_extended_bytes_splits_at_last : (front dir : List ℕ) (a b : ℕ) → bytes_eq (front ++ a ∷ []) (dir ++ b ∷ []) ≡ (bytes_eq front dir && (a == b))
equality_of_extended_bytes_splits_at_last [] [] a b = and_with_true_is_itself (a == b)
equality_of_extended_bytes_splits_at_last [] (d ∷ dir) a b = ap (λ t. (a == d) && t) (empty_bytes_differ_from_nonempty dir b) ∙ and_with_false_is_false (a == d)
equality_of_extended_bytes_splits_at_last (f ∷ front) [] a b = ap (λ t. (f == b) && t) (nonempty_bytes_differ_from_empty front a) ∙ and_with_false_is_false (f == b)
equality_of_extended_bytes_splits_at_last (f ∷ front) (d ∷ dir) a b = ap (λ t. (f == d) && t) (equality_of_extended_bytes_splits_at_last front dir a b) ∙ and_is_associative (f == d) (bytes_eq front dir) (a == b)
