-- A plan as one line of JSON (RFC 8259): the members in the order of their names, without spaces.
use Rattle.std.specs.Prelude.{ℕ, List, [], ◌∷◌, ◌++◌, map, codes, Option, Some, None}
use Rattle.serde_json.specs.Data.{Data, null, boolean, number, unsigned, string, array, object, member, no_members}
use Rattle.serde_json.specs.View.{items_of}
use Rattle.serde_json.specs.Written.{compact_text}
use Rattle.vm_law.specs.declared.plan.DiskPlan.{DiskPlan}
use Rattle.vm_law.specs.declared.plan.Plan.{Plan}

abbrev pub disk_data : DiskPlan → Data
disk_data d =
    object (member (codes "path") (string d.path) (member (codes "ro") (boolean d.ro) (member (codes "workers") (number (unsigned d.workers)) no_members)))

-- null where there is none
abbrev pub text_data : Option (List ℕ) → Data
text_data None = null
text_data (Some text) = string text

abbrev pub disks_data : List DiskPlan → Data
disks_data disks = array (items_of (map disk_data disks))

abbrev pub names_data : List (List ℕ) → Data
names_data names = array (items_of (map (λ n. string n) names))

abbrev pub plan_data : Plan → Data
plan_data p =
    object (member (codes "cpus") (number (unsigned p.cpus))
    (member (codes "disks") (disks_data p.disks)
    (member (codes "image") (text_data p.image)
    (member (codes "memory") (number (unsigned p.memory))
    (member (codes "name") (string p.name)
    (member (codes "notbuilt") (names_data p.notbuilt)
    (member (codes "script") (text_data p.script) no_members)))))))

-- the line, with its line feed (10)
abbrev pub plan_text : Plan → List ℕ
plan_text p = compact_text (plan_data p) ++ 10 ∷ []
