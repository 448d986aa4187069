-- The worked examples of file systems.
use Rattle.std.specs.Prelude.{ℕ, List, [], ◌∷◌, Option, option_map, codes, replicate}
use Rattle.jnode.specs.declared.node.Dirent.{Dirent}
use Rattle.jnode.specs.declared.node.Fill.{Fill}
use Rattle.jnode.specs.declared.node.Fill.TheVariants.{Zero, Data}
use Rattle.jnode.specs.declared.node.NodeRef.{NodeRef}
use Rattle.jnode.specs.declared.node.NodeRef.TheVariants.{Inode}
use Rattle.jmount.specs.StateOf.{inodes, object_of}
use Rattle.jmount.specs.declared.object.DeviceBytes.{DeviceBytes}

-- a version of a number, of a regular file of mode 0644
abbrev pub version_node : ℕ → ℕ → ℕ → ℕ → ℕ → Fill → NodeRef
version_node ino version isize offset dsize fill =
    Inode (record {
      ino = ino;
      version = version;
      mode = 0o100644;
      uid = 0;
      gid = 0;
      isize = isize;
      atime = 0;
      mtime = 0;
      ctime = 0;
      offset = offset;
      dsize = dsize;
      fill = fill;
    })

-- made, ten bytes written, cut to four, zeros up to eight, and a byte there
abbrev pub five_versions : List NodeRef
five_versions =
    version_node 2 1 0 0 0 (Data [])
    ∷ version_node 2 2 10 0 10 (Data (1 ∷ 2 ∷ 3 ∷ 4 ∷ 5 ∷ 6 ∷ 7 ∷ 8 ∷ 9 ∷ 10 ∷ []))
    ∷ version_node 2 3 4 0 0 (Data [])
    ∷ version_node 2 4 8 4 4 Zero
    ∷ version_node 2 5 9 8 1 (Data (255 ∷ []))
    ∷ []

-- version 3 over bytes 0 to 9, version 2 over 50 to 59, version 1 over 0 to 99
abbrev pub three_versions : List NodeRef
three_versions =
    version_node 2 3 101 0 10 (Data (replicate 10 33))
    ∷ version_node 2 2 60 50 10 (Data (replicate 10 22))
    ∷ version_node 2 1 100 0 100 (Data (replicate 100 11))
    ∷ []

-- a version of number 2, of this mode, of no size and with these data
abbrev pub version_with : ℕ → ℕ → ℕ → Fill → NodeRef
version_with mode version dsize fill =
    Inode (record {
      ino = 2;
      version = version;
      mode = mode;
      uid = 0;
      gid = 0;
      isize = 0;
      atime = 0;
      mtime = 0;
      ctime = 0;
      offset = 0;
      dsize = dsize;
      fill = fill;
    })

-- the number of a device of this mode that two versions make
abbrev pub number_after : ℕ → Fill → Option (Option DeviceBytes)
number_after mode fill =
    option_map (λ o. o.device)
    (object_of (inodes (version_with mode 1 2 (Data (1 ∷ 5 ∷ [])) ∷ version_with mode 2 2 fill ∷ []))
    2)

-- the entry "q" of the root, by its version
abbrev pub named_node : ℕ → ℕ → Dirent
named_node version ino =
    record { pino = 1; version = version; ino = ino; mctime = 0; kind = 8; name = codes "q" }
