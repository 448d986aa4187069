-- A new file that takes the place of the one of a name.
use Rattle.std.specs.Prelude.{◌==◌, ◌+◌, ◌*◌, ◌/◌, ◌%◌, ◌++◌, ℕ, Bool, true, false, List, [], bit_and, codes, decimal, if◌then◌else◌}

-- rule: What is printed: How a file is opened that takes the place of OUT, under which names, and
--   what its mode is.
--   definitions: jsystem.Beside.beside_name, jsystem.Beside.mode_beside,
--   jsystem.Beside.class_rights
--   code: jsystem::replacing::made_beside, jsystem::replacing::beside_name,
--   jsystem::replacing::permissions_beside
-- the names that are tried for it, beside that one: NAME.tmp, NAME.tmp1, NAME.tmp2 and so on
abbrev pub beside_name : List ℕ → ℕ → List ℕ
beside_name name i = name ++ (codes ".tmp" ++ (if i == 0 then [] else decimal i))

-- the rights in a mode of a class: of the file's owner (64), of its group (8), of all others (1)
abbrev pub class_rights : ℕ → ℕ → ℕ
class_rights class mode = mode / class % 8

-- the mode of these rights, without set-user-id and the like
abbrev pub mode_of_rights : ℕ → ℕ → ℕ → ℕ
mode_of_rights owner group others = owner * 64 + group * 8 + others

-- The mode of a file that takes the place of one of this mode: the same if it has the user and the
-- group of that one. Else it has no set-user-id and no set-group-id bit. Who was of the old group,
-- and is not of the new one, is one of all others now, and the other way round: both get what both
-- had. Who was the owner may be of any class but the owner's.
abbrev pub mode_beside : ℕ → Bool → Bool → ℕ
mode_beside mode true true = bit_and mode 0o7777
mode_beside mode true false =
    mode_of_rights (class_rights 64 mode) (bit_and (class_rights 8 mode) (class_rights 1 mode))
    (bit_and (class_rights 8 mode) (class_rights 1 mode))
mode_beside mode false true =
    mode_of_rights (class_rights 64 mode) (bit_and (class_rights 64 mode) (class_rights 8 mode))
    (bit_and (class_rights 64 mode) (class_rights 1 mode))
mode_beside mode false false =
    mode_of_rights (class_rights 64 mode)
    (bit_and (bit_and (class_rights 64 mode) (class_rights 8 mode)) (class_rights 1 mode))
    (bit_and (bit_and (class_rights 64 mode) (class_rights 8 mode)) (class_rights 1 mode))
