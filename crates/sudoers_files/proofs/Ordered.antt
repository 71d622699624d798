-- Names in the order of their bytes.
use Rattle.std.proofs.Common.{◌≡◌, ℕ, List, [], ◌∷◌, map, Vec, refl, ap}
use Rattle.std.specs.declared.alloc.Global.{Global}
use Rattle.std.specs.declared.cmp.Ordering.{Ordering}
use Rattle.std.specs.declared.cmp.Ordering.TheVariants.{Less, Equal, Greater}
use Rattle.std.specs.Ordering.{match_ordering, nat_cmp}
use Rattle.std.specs.Cmp.Lexicographic.{slice_cmp}
use Rattle.std.specs.BTreeSet.{insert_key}
use Rattle.sudoers_files.specs.internal.Gathering.{name_byte_order}

-- the bytes of a name
abbrev pub bytes_of_name : Vec ℕ Global → List ℕ
bytes_of_name name = name.items

-- A name is inserted where its bytes are inserted.
pub bytes_of_inserted_name_are_inserted : (order : List (Vec ℕ Global)) (name : Vec ℕ Global) → map bytes_of_name (insert_key name_byte_order order name) ≡ insert_key (slice_cmp nat_cmp) (map bytes_of_name order) (bytes_of_name name)
bytes_of_inserted_name_are_inserted [] name = refl
bytes_of_inserted_name_are_inserted (other ∷ order) name = by (name_byte_order name other) (bytes_of_inserted_name_are_inserted order name)
  where
    by : (o : Ordering) → map bytes_of_name (insert_key name_byte_order order name) ≡ insert_key (slice_cmp nat_cmp) (map bytes_of_name order) (bytes_of_name name)
        → map bytes_of_name (match_ordering o (name ∷ other ∷ order) (other ∷ order) (other ∷ insert_key name_byte_order order name))
        ≡ match_ordering o (bytes_of_name name ∷ map bytes_of_name (other ∷ order)) (map bytes_of_name (other ∷ order)) (bytes_of_name other ∷ insert_key (slice_cmp nat_cmp) (map bytes_of_name order) (bytes_of_name name))
    by Less later = refl
    by Equal later = refl
    by Greater later = ap (λ names. bytes_of_name other ∷ names) later
