-- The texts of what a command does not go on with an image for.
use Rattle.std.specs.Prelude.{ℕ, ◌==◌, List, [], ◌++◌, Option, Some, None, codes, decimal, if◌then◌else◌}
use Rattle.jreport.specs.declared.image_fault.ImageFault.{ImageFault}
use Rattle.jreport.specs.declared.image_fault.ImageFault.TheVariants as image

-- the number and the name of the fault, and the name of the image where that tells it from others
unfoldable pub image_text : ImageFault → List ℕ
image_text (image.NoNodes None others) = codes "I1 NoNodes"
image_text (image.NoNodes (Some name) others) = codes "I1 NoNodes " ++ name.now
image_text (image.Findings name findings) = codes "I2 Findings"
image_text image.Part = codes "I3 Part"
image_text (image.NoInode ino) = codes "I4 NoInode"
image_text (image.NoContent ino) = codes "I5 NoContent"

-- what is said of so many nodes of the other byte order, behind their number
abbrev pub others_text : ℕ → List ℕ
others_text n = if n == 1 then codes " node, see --endian and info" else
    codes " nodes, see --endian and info"

-- what is said of so many findings, behind their number
abbrev pub replaced_text : ℕ → List ℕ
replaced_text n = if n == 1 then
    codes " finding, see check --scan; --force does it all the same" else
    codes " findings, see check --scan; --force does it all the same"

-- the file that the note is on, if it is on one
unfoldable pub image_named : ImageFault → List ℕ
image_named (image.NoNodes name others) = []
image_named (image.Findings name findings) = name.now
image_named image.Part = []
image_named (image.NoInode ino) = []
image_named (image.NoContent ino) = []

-- what is said of the fault: where the nodes are, or that there is none; or what helps
unfoldable pub image_note : ImageFault → List ℕ
image_note (image.NoNodes name others) =
    if others == 0 then codes "no node is found in either byte order, see info" else
    codes "the other byte order has " ++ (decimal others ++ others_text others)
image_note (image.Findings name findings) =
    codes " would be replaced, and has " ++ (decimal findings ++ replaced_text findings)
image_note image.Part =
    codes "IMAGE and OUT are one file, and a part of it is read; give another OUT"
image_note (image.NoInode ino) = codes "no sound node of these versions is of inode "
    ++ (decimal ino ++ codes "; history prints all")
image_note (image.NoContent ino) =
    codes "by these nodes neither a file nor a symlink: inode " ++ decimal ino
