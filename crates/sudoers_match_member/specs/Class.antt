-- The classes of bytes that a set can name, over ASCII.
use Rattle.std.specs.Prelude.{ℕ, Bool, true, false, not, ◌&&◌, ◌||◌, ◌==◌, nat_le, List, [], ◌∷◌, Option, Some, None, if◌then◌else◌, codes}
use Rattle.sudoers_match_member.specs.declared.byte_classes.PosixByteClass.{PosixByteClass}
use Rattle.sudoers_match_member.specs.declared.byte_classes.PosixByteClass.TheVariants.{Alnum, Alpha, Blank, Cntrl, Digit, Graph, Lower, Print, Punct, Space, Upper, Xdigit}

abbrev pub is_between : ℕ → ℕ → ℕ → Bool
is_between low high b = nat_le low b && nat_le b high

abbrev pub is_upper : ℕ → Bool
is_upper b = is_between 65 90 b

abbrev pub is_lower : ℕ → Bool
is_lower b = is_between 97 122 b

abbrev pub is_digit : ℕ → Bool
is_digit b = is_between 48 57 b

abbrev pub is_alnum : ℕ → Bool
is_alnum b = is_digit b || (is_upper b || is_lower b)

-- the byte is of the class
abbrev pub is_byte_of_class : PosixByteClass → ℕ → Bool
is_byte_of_class Alnum b = is_alnum b
is_byte_of_class Alpha b = is_upper b || is_lower b
is_byte_of_class Blank b = (b == 32) || (b == 9)
is_byte_of_class Cntrl b = nat_le b 31 || (b == 127)
is_byte_of_class Digit b = is_digit b
is_byte_of_class Graph b = is_between 33 126 b
is_byte_of_class Lower b = is_lower b
is_byte_of_class Print b = is_between 32 126 b
is_byte_of_class Punct b = is_between 33 126 b && not (is_alnum b)
is_byte_of_class Space b = (b == 32) || is_between 9 13 b
is_byte_of_class Upper b = is_upper b
is_byte_of_class Xdigit b = is_digit b || (is_between 65 70 b || is_between 97 102 b)

-- how a set names the class
abbrev pub bracketed_name_of_class : PosixByteClass → List ℕ
bracketed_name_of_class Alnum = codes "[:alnum:]"
bracketed_name_of_class Alpha = codes "[:alpha:]"
bracketed_name_of_class Blank = codes "[:blank:]"
bracketed_name_of_class Cntrl = codes "[:cntrl:]"
bracketed_name_of_class Digit = codes "[:digit:]"
bracketed_name_of_class Graph = codes "[:graph:]"
bracketed_name_of_class Lower = codes "[:lower:]"
bracketed_name_of_class Print = codes "[:print:]"
bracketed_name_of_class Punct = codes "[:punct:]"
bracketed_name_of_class Space = codes "[:space:]"
bracketed_name_of_class Upper = codes "[:upper:]"
bracketed_name_of_class Xdigit = codes "[:xdigit:]"

-- the bytes begin with the name
abbrev pub has_bracketed_class_name_prefix : List ℕ → List ℕ → Bool
has_bracketed_class_name_prefix bytes [] = true
has_bracketed_class_name_prefix [] (c ∷ cs) = false
has_bracketed_class_name_prefix (b ∷ bs) (c ∷ cs) = (b == c) && has_bracketed_class_name_prefix bs cs

-- the first of the classes whose name begins the bytes
abbrev pub first_class_named_at : List PosixByteClass → List ℕ → Option PosixByteClass
first_class_named_at [] bytes = None
first_class_named_at (k ∷ ks) bytes = if has_bracketed_class_name_prefix bytes (bracketed_name_of_class k) then Some k else first_class_named_at ks bytes

abbrev pub all_posix_classes : List PosixByteClass
all_posix_classes = Alnum ∷ Alpha ∷ Blank ∷ Cntrl ∷ Digit ∷ Graph ∷ Lower ∷ Print ∷ Punct ∷ Space ∷ Upper ∷ Xdigit ∷ []

unfoldable pub class_named_at : List ℕ → Option PosixByteClass
class_named_at bytes = first_class_named_at all_posix_classes bytes
