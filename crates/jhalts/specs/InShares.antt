-- From where on forms stand that go out to the openings of an image.
use Rattle.std.specs.Prelude.{ℕ, ◌+◌, ◌-◌, ◌*◌, nat_le, List, [], ◌∷◌, length, map, flat_map, if◌then◌else◌}
use Rattle.jnode.specs.declared.order.Endian.{Endian}
use Rattle.jcuts.specs.Standing.{standings}
use Rattle.jcuts.specs.declared.standing.Standing.{Standing}
use Rattle.jrests.specs.Shares.{Share, output_to}
use Rattle.jrests.specs.declared.opening.Opening.{Opening}

-- the same node so many bytes further up
abbrev pub standing_on : ℕ → Standing → Standing
standing_on at standing = record {
  addr = at + standing.addr;
  totlen = standing.totlen;
  stands_from = at + standing.stands_from;
  weak = standing.weak;
}

-- rule: The log: From where on nodes stand in blank blocks and the rests of begun ones.
--   definitions: jhalts.InShares.standings_in_shares, jcuts.Standing.standings
--   code: jhalts::walking::standings_of
--   laws: jhalts::laws::halts_survive
-- Forms of a share stand in its block as they do that go out from its place on,
abbrev pub share_standings : Endian → ℕ → Share → List Standing
share_standings e size share =
    map (standing_on (share.0.block * size)) (standings e size share.0.place share.1)

-- and those of several one share after the other.
abbrev pub standings_in_shares : Endian → ℕ → List Share → List Standing
standings_in_shares e size shares = flat_map (share_standings e size) shares

-- ---- addresses

-- where the first opening of a row goes on, and 0 where there is none
abbrev pub row_address : ℕ → List Opening → ℕ
row_address size [] = 0
row_address size (o ∷ row) = o.block * size + o.place

-- the address behind the first k bytes that go out to shares
abbrev pub stop_address : Endian → ℕ → List Share → ℕ → ℕ
stop_address e size [] k = 0
stop_address e size (share ∷ shares) k =
    let out = output_to e size share in
    if nat_le k (length out) then share.0.block * size + share.0.place + k else
    stop_address e size shares (k - length out)
