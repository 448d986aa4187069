-- What a file begins with that is no image of flash but holds one, or is another file system.
use Rattle.std.specs.Prelude.{ℕ, Bool, nat_eq, List, [], ◌∷◌, ◌++◌, codes, Option, Some, None}
use Rattle.std.specs.List.{find, starts_with}
use Rattle.jinfo.specs.declared.container.Container.{Container}
use Rattle.jinfo.specs.declared.container.Container.TheVariants.{Gzip, Xz, Ubi, Squashfs, Trx, UImage}

-- The bytes that each begins with: gzip RFC 1952, section 2.3.1; xz `xz-file-format.txt`, section
-- 2.1.1.1; UBI Linux drivers/mtd/ubi/ubi-media.h, UBI_EC_HDR_MAGIC; squashfs Linux
-- include/uapi/linux/magic.h, SQUASHFS_MAGIC; TRX Linux drivers/mtd/parsers/parser_trx.c,
-- TRX_MAGIC; uImage U-Boot include/image.h, IH_MAGIC.
abbrev pub container_magic : Container → List ℕ
container_magic Gzip = 0x1F ∷ 0x8B ∷ []
container_magic Xz = 0xFD ∷ 0x37 ∷ 0x7A ∷ 0x58 ∷ 0x5A ∷ 0 ∷ []
container_magic Ubi = 0x55 ∷ 0x42 ∷ 0x49 ∷ 0x23 ∷ []
container_magic Squashfs = 0x68 ∷ 0x73 ∷ 0x71 ∷ 0x73 ∷ []
container_magic Trx = 0x48 ∷ 0x44 ∷ 0x52 ∷ 0x30 ∷ []
container_magic UImage = 0x27 ∷ 0x05 ∷ 0x19 ∷ 0x56 ∷ []

-- the file begins as this does
abbrev pub begins_as : List ℕ → Container → Bool
begins_as file container = starts_with nat_eq file (container_magic container)

-- rule: What is printed: The kind of a file by its first bytes.
--   definitions: jinfo.Containers.container_of
--   code: jinfo::container::container_of
--   laws: jinfo::examples::known_beginnings
-- what the file begins as; no two of these begin alike
abbrev pub container_of : List ℕ → Option Container
container_of file = find (begins_as file) (Gzip ∷ Xz ∷ Ubi ∷ Squashfs ∷ Trx ∷ UImage ∷ [])

abbrev pub container_name : Container → List ℕ
container_name Gzip = codes "gzip"
container_name Xz = codes "xz"
container_name Ubi = codes "UBI"
container_name Squashfs = codes "squashfs"
container_name Trx = codes "a TRX header"
container_name UImage = codes "a uImage header"

-- the note that says so, as it is on standard error
unfoldable pub container_line : Container → List ℕ
container_line container =
    codes "jffs2_image: note: the file begins as " ++ (container_name container ++ codes " does\n")

abbrev pub container_note : Option Container → List ℕ
container_note None = []
container_note (Some container) = container_line container
