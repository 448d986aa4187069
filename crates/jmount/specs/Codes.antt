-- How the values that contracts see are told apart.
use Rattle.std.specs.Prelude.{ℕ, Bool, List, Option, refl}
use Rattle.std.specs.Coded.{Coded, code_by, coded×, coded_ℕ, coded_bool, coded_list, coded_option}
use Rattle.std.specs.Ordering.{nat_cmp}
use Rattle.std.specs.FinMap as finite
use Rattle.std.specs.FinMap.{FinMap}
use Rattle.jname.specs.Live.{key_cmp}
use Rattle.jscan.specs.contracts.finding.Finding as finding
use Rattle.jscan.specs.declared.finding.Finding.{Finding}
use Rattle.jmount.specs.Tree.{ObjectOf, Tree, State}
use Rattle.jmount.specs.contracts.object.DeviceBytes as device
use Rattle.jmount.specs.declared.object.DeviceBytes.{DeviceBytes}
use Rattle.jmount.specs.Mount.{Mount}

abbrev pub object_code : {B : Type 0} → Coded B → Coded (ObjectOf B)
object_code {B} b =
    code_by (ℕ × (ℕ × (ℕ × (ℕ × (ℕ × (ℕ × (Option DeviceBytes × B)))))))
    (coded× coded_ℕ
    (coded× coded_ℕ
    (coded× coded_ℕ
    (coded× coded_ℕ
    (coded× coded_ℕ
    (coded× coded_ℕ (coded× (coded_option (device.the_row).coded) b)))))))
    (λ o. (o.mode, (o.uid, (o.gid, (o.atime, (o.mtime, (o.ctime, (o.device, o.body))))))))
    (λ p. record {
      mode = p.0;
      uid = p.1.0;
      gid = p.1.1.0;
      atime = p.1.1.1.0;
      mtime = p.1.1.1.1.0;
      ctime = p.1.1.1.1.1.0;
      device = p.1.1.1.1.1.1.0;
      body = p.1.1.1.1.1.1.1;
    })
    (λ _. refl)

abbrev pub tree_code : {B : Type 0} → Coded B → Coded (Tree B)
tree_code {B} b =
    code_by (FinMap nat_cmp (ObjectOf B) × (FinMap key_cmp ℕ × ℕ))
    (coded× (finite.code coded_ℕ (object_code b))
    (coded× (finite.code (coded× coded_ℕ (coded_list coded_ℕ)) coded_ℕ) coded_ℕ))
    (λ t. (t.objects, (t.names, t.next)))
    (λ p. record { objects = p.0; names = p.1.0; next = p.1.1 })
    (λ _. refl)

abbrev pub mount_code : Coded Mount
mount_code =
    code_by (List ℕ × (State × (FinMap nat_cmp ℕ × (List Finding × Bool))))
    (coded× (coded_list coded_ℕ) (coded× (tree_code (coded_list coded_ℕ))
    (coded× (finite.code coded_ℕ coded_ℕ)
    (coded× (coded_list (finding.the_row).coded) coded_bool))))
    (λ m. (m.image, (m.state, (m.tops, (m.findings, m.read_only)))))
    (λ p. record {
      image = p.0;
      state = p.1.0;
      tops = p.1.1.0;
      findings = p.1.1.1.0;
      read_only = p.1.1.1.1;
    })
    (λ _. refl)
