use Rattle.std.proofs.Common.{◌≡◌, Bool, true, false, List, Option, None, Some, refl, ap, sym}
use Rattle.std.specs.Prelude.{◌&&◌, ◌||◌, codes, if◌then◌else◌, not, option_map}
use Rattle.clap.specs.Words.{Row, Text, subcommand_of}
use Rattle.jline.specs.Read.{◌>>=◌}
use Rattle.jspare.specs.declared.region.Region.{Region}
use Rattle.jcommand.specs.Commands.{program}
use Rattle.jcommand.specs.Parsed.{is_given, parsed, parsed_by, parsed_from}
use Rattle.jcommand.specs.Requests.{are_options_given, auto_by, auto_from, has_no_second_read, has_region_by, has_region_from, is_auto, is_contrary, is_json, is_region_given, json_by, json_from, reads_image, region_from, region_from_rows, region_in, region_told, request_by, request_from, request_of}
use Rattle.jcommand.specs.declared.parsed.Command.{Command}
use Rattle.jcommand.specs.declared.request.Request.{Request}
use Rattle.jcommand.proofs.laws.requests_are_parsed.Goals as goal

abbrev made : Bool → Option Region → Bool → Command Text → Request Text
made auto region json c = record { auto = auto; region = region; json = json; command = c }

abbrev made_by : Bool → Bool → Bool → Option (Option Region) → Command Text → Option (Request Text)
made_by refused auto json region c = if refused then None else region >>= λ r. Some (made auto r json c)

record IsMade (auto json : Bool) (region : Option (Option Region)) (c : Command Text) (r : Request Text) : Type 0 where
  pub is_auto : r.auto ≡ auto
  pub is_json : r.json ≡ json
  pub part : region ≡ Some r.region
  pub command : r.command ≡ c

with_region : (auto json : Bool) (region : Option (Option Region)) (c : Command Text) (r : Request Text) → (region >>= λ x. Some (made auto x json c)) ≡ Some r → IsMade auto json region c r
with_region auto json None c r is = cc
with_region auto json (Some s) c r is = record { is_auto = cc; is_json = cc; part = cc; command = cc }

-- by whether words are given that do not go together
made_of : (refused auto json : Bool) (region : Option (Option Region)) (c : Command Text) (r : Request Text) → made_by refused auto json region c ≡ Some r → IsMade auto json region c r
made_of true auto json region c r is = cc
made_of false auto json region c r is = with_region auto json region c r is

of_rows : (rows : List Row) (c : Command Text) (r : Request Text) → request_of rows c ≡ Some r → IsMade (is_auto rows) (is_json rows) (region_in rows c) c r
of_rows rows c r is = made_of (is_contrary rows c) (is_auto rows) (is_json rows) (region_in rows c) c r is

of_command : (read : Option (Command Text)) (rows : List Row) (r : Request Text) → (read >>= request_of rows) ≡ Some r → read ≡ Some r.command
of_command None rows r is = cc
of_command (Some c) rows r is = ap (λ (x : Command Text). Some x) (sym (of_rows rows c r is).command)

auto_of : (read : Option (Command Text)) (rows : List Row) (r : Request Text) → (read >>= request_of rows) ≡ Some r → r.auto ≡ is_auto rows
auto_of None rows r is = cc
auto_of (Some c) rows r is = (of_rows rows c r is).is_auto

json_of : (read : Option (Command Text)) (rows : List Row) (r : Request Text) → (read >>= request_of rows) ≡ Some r → r.json ≡ is_json rows
json_of None rows r is = cc
json_of (Some c) rows r is = (of_rows rows c r is).is_json

-- by whether a part is given, and an image is read
given_by : (given reads : Bool) (told r : Option Region) → (if not given then Some None else if reads then option_map (λ (x : Region). Some x) told else None) ≡ Some r
    → r ≡ (if given then told else None)
given_by false reads told r is = cc
given_by true true None r is = cc
given_by true true (Some x) r is = cc
given_by true false told r is = cc

region_of : (read : Option (Command Text)) (rows : List Row) (r : Request Text) → (read >>= request_of rows) ≡ Some r
    → r.region ≡ (if is_region_given rows then region_told rows else None)
region_of None rows r is = cc
region_of (Some c) rows r is = given_by (is_region_given rows) (reads_image c) (region_told rows) r.region (of_rows rows c r is).part

none_given : (given reads : Bool) (told : Option Region) → given ≡ false → (if not given then Some None else if reads then option_map (λ (x : Region). Some x) told else None) ≡ Some None
none_given false reads told is = refl
none_given true reads told is = cc

-- by clap's matches
found_command : (found : Option (Text × List Row)) (r : Request Text) → request_by found ≡ Some r → parsed_by found ≡ Some r.command
found_command None r is = cc
found_command (Some p) r is = of_command (parsed p.0 p.1) p.1 r is

found_auto : (found : Option (Text × List Row)) (r : Request Text) → request_by found ≡ Some r → r.auto ≡ auto_by found
found_auto None r is = cc
found_auto (Some p) r is = auto_of (parsed p.0 p.1) p.1 r is

found_json : (found : Option (Text × List Row)) (r : Request Text) → request_by found ≡ Some r → r.json ≡ json_by found
found_json None r is = cc
found_json (Some p) r is = json_of (parsed p.0 p.1) p.1 r is

found_region : (found : Option (Text × List Row)) (r : Request Text) → request_by found ≡ Some r → r.region ≡ region_from_rows found
found_region None r is = cc
found_region (Some p) r is = region_of (parsed p.0 p.1) p.1 r is

-- nothing of it is given
plain_by : (auto json svg options : Bool) (region : Option (Option Region)) (c : Command Text) → auto ≡ false → json ≡ false → region ≡ Some None
    → made_by ((auto && options) || (json && svg)) auto json region c ≡ Some (made false None false c)
plain_by true json svg options region c auto json_is none = cc
plain_by false true svg options region c auto json_is none = cc
plain_by false false svg options None c auto json_is none = cc
plain_by false false svg options (Some s) c auto json_is none = cc

plain_of : (read : Option (Command Text)) (rows : List Row) → is_auto rows ≡ false → is_region_given rows ≡ false → is_json rows ≡ false
    → (read >>= request_of rows) ≡ option_map (made false None false) read
plain_of None rows auto part json = refl
plain_of (Some c) rows auto part json = plain_by (is_auto rows) (is_json rows) (is_given (codes "svg") rows) (are_options_given rows || has_no_second_read c) (region_in rows c) c auto json
    (none_given (is_region_given rows) (reads_image c) (region_told rows) part)

found_plain : (found : Option (Text × List Row)) → auto_by found ≡ false → has_region_by found ≡ false → json_by found ≡ false
    → request_by found ≡ option_map (made false None false) (parsed_by found)
found_plain None auto part json = refl
found_plain (Some p) auto part json = plain_of (parsed p.0 p.1) p.1 auto part json

pub returns-clause-command : goal.returns-clause-command
unfolding request_from parsed_from
returns-clause-command c = λ args asked is. found_command (subcommand_of program args) asked is

pub returns-clause-auto : goal.returns-clause-auto
unfolding request_from auto_from
returns-clause-auto c = λ args asked is. found_auto (subcommand_of program args) asked is

pub returns-clause-region : goal.returns-clause-region
unfolding request_from region_from
returns-clause-region c = λ args asked is. found_region (subcommand_of program args) asked is

pub returns-clause-json : goal.returns-clause-json
unfolding request_from json_from
returns-clause-json c = λ args asked is. found_json (subcommand_of program args) asked is

pub returns-clause-plain : goal.returns-clause-plain
unfolding request_from parsed_from auto_from has_region_from json_from
returns-clause-plain c = λ args auto part json. found_plain (subcommand_of program args) auto part json
