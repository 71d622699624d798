-- What writes append.
use Rattle.std.proofs.Common.{ℕ, List, ◌++◌, Option, Some, None, append_assoc}
use Rattle.std.specs.Io.KnownBytes.{Appends}

-- two appends in turn
pub two_appends_append_joined_bytes : (old mid new : Option (List ℕ)) (xs ys : List ℕ) → Appends old mid xs → Appends mid new ys → Appends old new (xs ++ ys)
two_appends_append_joined_bytes None mid new xs ys a b = tt
two_appends_append_joined_bytes (Some o) None new xs ys a b = absurd a
two_appends_append_joined_bytes (Some o) (Some m) None xs ys a b = absurd b
two_appends_append_joined_bytes (Some o) (Some m) (Some n) xs ys a b = rw (b, a) (append_assoc o xs ys)
