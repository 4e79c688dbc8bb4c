-- The nodes of a run, made step by step, and what stops them.
use Rattle.std.proofs.Common.{◌≡◌, ℕ, ◌<◌, ◌≤◌, Bool, true, false, List, [], ◌∷◌, length, Some, Result, Ok, Err, refl, sym, ◌∙◌, ap, subst, arith}
use Rattle.std.specs.Prelude.{◌↔◌, IsSome, IsOk, IfErr, is_some}
use Rattle.blk_base.specs.Calls.{FailsAt}
use Rattle.blk_base.specs.Device.{CountsFault}
use Rattle.blk_graph.specs.Graph.{HasName, HasNode, ids}
use Rattle.blk_graph.specs.declared.edge.Conflict.{Conflict as Pair}
use Rattle.blk_graph.specs.declared.edge.Edge.{Edge}
use Rattle.blk_graph.specs.declared.kind.NodeKind.{NodeKind}
use Rattle.blk_graph.specs.Ids.{IsLowestFree}
use Rattle.blk_graph.specs.Rule.{KeepsPermissions}
use Rattle.blk_graph.proofs.Members.{Contains-here, Contains-there}
use Rattle.q2_format.specs.Sound.{image_refusal}
use Rattle.q2_format.specs.declared.header.Header.{Header}
use Rattle.q2_format.specs.declared.header.HeaderStop.TheVariants as headers
use Rattle.q2_format.specs.declared.header.TheConstants.{MIN_HEADER_LENGTH}
use Rattle.q2_image.specs.Image.{Known}
use Rattle.q2_image.specs.Opening.{Names, fault_in_image, refusal_of}
use Rattle.q2_image.specs.Refusals.{IsRefusalFor}
use Rattle.q2_image.specs.OpeningCalls.{IsOpeningCall}
use Rattle.q2_image.specs.declared.stop.ImageStop.{ImageStop}
use Rattle.q2_image.specs.declared.stop.ImageStop.TheVariants as stops
use Rattle.blk_nodes.specs.Adding.{with_node_row, with_node_device, with_below, file_edge, guest_edge, IsDenied, IsOverStop}
use Rattle.blk_nodes.specs.declared.stop.AddStop.{AddStop}
use Rattle.blk_nodes.specs.declared.stop.AddStop.TheVariants as adding
use Rattle.blk_nodes.specs.Contents.{Unfolds}
use Rattle.blk_nodes.specs.Joined.{IsJoined, IsFile}
use Rattle.blk_nodes.specs.Nodes.{Nodes, DeviceSeen, no_nodes, device_in}
use Rattle.blk_nodes.specs.Overlays.{IsOpened, IsOpenedOn, IsUnopened, KeptBy, with_qcow2}
use Rattle.blk_nodes.specs.Reading.{HaveRisen}
use Rattle.blk_nodes.specs.declared.backing.Backing.TheVariants.{Unsaid}
use Rattle.blk_nodes.specs.declared.row.Driver.TheVariants as drivers
use Rattle.qblk_core.specs.Format.{CanHoldImage}
use Rattle.qblk_core.specs.ImageNodes.{file_name, image_name, file_node_alone, asked_image, IsImageNodeOver, AreMadeOf}
use Rattle.qblk_core.specs.Opened.{IsFileOver, IsOpenedAs, StopsAs, StopsImageNode, open_stop}
use Rattle.qblk_core.specs.Run.{HasLengthFor, IsBadBytes}
use Rattle.qblk_core.specs.Session.{IsRefusedImage}
use Rattle.qblk_core.specs.declared.opening.OpenStop.TheVariants.{Refused}
use Rattle.qblk_core.specs.declared.status.InputWhy.TheVariants.{NeedsBacking, Image}
use Rattle.qblk_words.specs.declared.words.Format.{Format}
use Rattle.qblk_words.specs.declared.words.Format.TheVariants.{Raw, Qcow2}
use Rattle.qblk_core.proofs.Made.{first-id, second-id, over-as, made-one, drive-keeps, not-stopped}
use Rattle.qblk_core.proofs.OneDevice.{first-found, head-same, risen-one}

-- ---- the `file` node

pub file-made : (d : DeviceSeen) (old new : Nodes) (id : ℕ) (name : List ℕ) → d.node ≡ 0 → old ≡ no_nodes → name ≡ file_name → IsLowestFree (ids old.graph) id
    → new ≡ with_node_device (with_node_row old id name (record { driver = drivers.File; size = d.size; is_read_only = false })) (record d { node = id })
    → (new ≡ file_node_alone d) × (id ≡ 0)
file-made d old new id name node none named lowest is =
    let zeroth : id ≡ 0 = first-id id (subst (λ (o : Nodes). IsLowestFree (ids o.graph) id) none lowest) in
    let at : id ≡ d.node = zeroth ∙ sym node in (
      is ∙ ap (λ (o : Nodes). with_node_device (with_node_row o id name (record { driver = drivers.File; size = d.size; is_read_only = false })) (record d { node = id })) none
          ∙ ap (λ (n : List ℕ). with_node_device (with_node_row no_nodes id n (record { driver = drivers.File; size = d.size; is_read_only = false })) (record d { node = id })) named
          ∙ ap (λ (k : ℕ). with_node_device (with_node_row no_nodes k file_name (record { driver = drivers.File; size = d.size; is_read_only = false })) (record d { node = id })) zeroth
          ∙ ap (λ (k : ℕ). with_node_device (with_node_row no_nodes 0 file_name (record { driver = drivers.File; size = d.size; is_read_only = false })) (record d { node = k })) at,
      zeroth,
    )

pub is-file : (d : DeviceSeen) (nodes : Nodes) (file : ℕ) → IsFileOver d nodes → file ≡ 0 → IsFile nodes file
is-file d nodes file over zeroth =
    let here : IsFile (file_node_alone d) 0 = record { row = _; there = refl; driver = refl } in
    subst (λ (k : ℕ). IsFile nodes k) (sym zeroth) (subst (λ (n : Nodes). IsFile n 0) (sym over.is) here)

-- ---- the image's node

pub qcow2-made : (d : DeviceSeen) (old new : Nodes) (file id : ℕ) (name : List ℕ) (image : Known) → IsFileOver d old → file ≡ 0 → name ≡ image_name
    → IsLowestFree (ids old.graph) id → new ≡ with_qcow2 old (record { name = name; file = file; backing = Unsaid; is_read_only = false }) id image
    → (id ≡ 1) × (new ≡ with_qcow2 old asked_image 1 image)
qcow2-made d old new file id name image over zeroth named lowest is =
    let first : id ≡ 1 = second-id id (subst (λ (o : Nodes). IsLowestFree (ids o.graph) id) over.is lowest) in (
      first,
      is ∙ ap (λ (k : ℕ). with_qcow2 old (record { name = name; file = file; backing = Unsaid; is_read_only = false }) k image) first
          ∙ ap (λ (n : List ℕ). with_qcow2 old (record { name = n; file = file; backing = Unsaid; is_read_only = false }) 1 image) named
          ∙ ap (λ (k : ℕ). with_qcow2 old (record { name = image_name; file = k; backing = Unsaid; is_read_only = false }) 1 image) zeroth,
    )

-- ---- what stops it

found-device : (d : DeviceSeen) (old : Nodes) (file : ℕ) (x : DeviceSeen) → IsFileOver d old → device_in old.devices file ≡ Some x → x ≡ d
found-device d old file x over held = first-found d x file (subst (λ (n : Nodes). device_in n.devices file ≡ Some x) over.is held)

-- a qcow2 image that is open fits its file
pub can-hold : (names : Bool) (d : DeviceSeen) (image : Known) → IsOpenedOn d image → is_some image.header.name ≡ names → CanHoldImage names d.size
can-hold names d image on is = (on.long, (image, on.fits, is))

-- one that names a backing file
pub needs-backing : (d : DeviceSeen) (old new : Nodes) (file : ℕ) (image : Known) → IsFileOver d old → IsOpened old.devices file image → new ≡ old → is_some image.header.name ≡ true
    → StopsImageNode Qcow2 old new (Refused NeedsBacking)
needs-backing d old new file image over is same named =
    let was : old.devices ≡ d ∷ [] = ap (λ (n : Nodes). n.devices) over.is in
    let on = subst (λ (x : DeviceSeen). IsOpenedOn x image) (found-device d old file is.device over is.held) is.on in
    let refused : IsRefusedImage Qcow2 NeedsBacking d = record {
      bytes = λ bytes told. (let known = on.known bytes told in (known.sound, subst (λ (h : Header). IsSome h.name) (sym known.header) named));
      there = λ bad. absurd (let no : ⊥ = cc bad in no);
      length = can-hold true d image on named;
      cause = tt;
    } in
    record {
      before = d;
      now = d;
      was = was;
      is = record { only = ap (λ (n : Nodes). n.devices) same ∙ was; node = over.node; number = over.number };
      cause = (refused, refl);
      kept = record { same = refl; faults = omega arith };
    }

-- the refusal of a qcow2 image, which is none of a raw one's
refused-as : (d : DeviceSeen) (stop : ImageStop) → ((bytes : List ℕ) → d.content ≡ Some bytes → IsBadBytes Qcow2 (Image stop) bytes) → IsSome (refusal_of stop)
    → HasLengthFor (Image stop) d.size → IsRefusedImage Qcow2 (Image stop) d
refused-as d stop named cause length = record {
  bytes = named;
  there = λ bad. absurd (let no : ⊥ = cc bad in no);
  length = length;
  cause = cause;
}

not-short : (size : ℕ) → (size < MIN_HEADER_LENGTH → ⊥) → MIN_HEADER_LENGTH ≤ size
not-short size none = omega arith

-- one that is too short for a header is refused so
length-for : (size : ℕ) (stop : ImageStop) → (size < MIN_HEADER_LENGTH → stop ≡ stops.Header headers.Short) → IsRefusalFor stop size → HasLengthFor (Image stop) size
length-for size (stops.Header headers.Short) short refusal = refusal
length-for size stop short refusal = (not-short size (λ less. let is = short less in let no : ⊥ = cc is in no), refusal)

named-stop : (d e : DeviceSeen) (stop : ImageStop) → ((bytes : List ℕ) → d.content ≡ Some bytes → Names (image_refusal bytes) stop) → (d.size < MIN_HEADER_LENGTH → stop ≡ stops.Header headers.Short) → IsRefusalFor stop d.size → CountsFault (fault_in_image stop) d.faults e.faults
    → FailsAt (IsOpeningCall d.size d.content) (fault_in_image stop) e.failed_call → KeptBy stop (d ∷ []) (e ∷ []) → StopsAs Qcow2 d e (open_stop stop)
named-stop d e (stops.Header stop) named short refusal cause call kept = (refused-as d (stops.Header stop) named refl (length-for d.size (stops.Header stop) short refusal), head-same e d [] kept)
named-stop d e (stops.Offset offset) named short refusal cause call kept = (refused-as d (stops.Offset offset) named refl (length-for d.size (stops.Offset offset) short refusal), head-same e d [] kept)
named-stop d e (stops.Reserved table index) named short refusal cause call kept = (refused-as d (stops.Reserved table index) named refl (length-for d.size (stops.Reserved table index) short refusal), head-same e d [] kept)
named-stop d e (stops.Compressed cluster) named short refusal cause call kept = (refused-as d (stops.Compressed cluster) named refl (length-for d.size (stops.Compressed cluster) short refusal), head-same e d [] kept)
named-stop d e (stops.Overlap cluster) named short refusal cause call kept = (refused-as d (stops.Overlap cluster) named refl (length-for d.size (stops.Overlap cluster) short refusal), head-same e d [] kept)
named-stop d e (stops.Refcount cluster) named short refusal cause call kept = (refused-as d (stops.Refcount cluster) named refl (length-for d.size (stops.Refcount cluster) short refusal), head-same e d [] kept)
named-stop d e stops.HeaderFull named short refusal cause call kept = (refused-as d stops.HeaderFull named refl (length-for d.size stops.HeaderFull short refusal), head-same e d [] kept)
named-stop d e (stops.Io count) named short refusal cause call kept =
    (refl, cause.0, cause.1, not-short d.size (λ less. let is = short less in let no : ⊥ = cc is in no), call)
named-stop d e stops.NoMemory named short refusal cause call kept = head-same e d [] kept

pub unopened : (d : DeviceSeen) (old new : Nodes) (file : ℕ) (stop : ImageStop) → IsFileOver d old → IsUnopened old.devices new.devices file stop → HaveRisen old.devices new.devices
    → StopsImageNode Qcow2 old new (open_stop stop)
unopened d old new file stop over is risen =
    let was : old.devices ≡ d ∷ [] = ap (λ (n : Nodes). n.devices) over.is in
    let r = risen-one d new.devices (subst (λ (ds : List DeviceSeen). HaveRisen ds new.devices) was risen) in
    let before = found-device d old file is.before over is.held in
    let after : is.after ≡ r.0 = first-found r.0 is.after file (subst (λ (ds : List DeviceSeen). device_in ds file ≡ Some is.after) r.1 is.left) in
    let same = r.2.same in
    record {
      before = d;
      now = r.0;
      was = was;
      is = record {
        only = r.1;
        node = ap (λ (x : DeviceSeen). x.node) same ∙ over.node;
        number = ap (λ (x : DeviceSeen). x.number) same ∙ over.number;
      };
      cause = named-stop d r.0 stop (λ bytes told. is.on.named bytes (ap (λ (x : DeviceSeen). x.content) before ∙ told))
          (subst (λ (x : DeviceSeen). x.size < MIN_HEADER_LENGTH → stop ≡ stops.Header headers.Short) before is.on.short)
          (subst (λ (x : DeviceSeen). IsRefusalFor stop x.size) before is.on.refusal)
          (subst (λ (x : DeviceSeen). CountsFault (fault_in_image stop) d.faults x.faults) after (subst (λ (x : DeviceSeen). CountsFault (fault_in_image stop) x.faults is.after.faults) before is.on.cause))
          (subst (λ (x : DeviceSeen). FailsAt (IsOpeningCall d.size d.content) (fault_in_image stop) x.failed_call) after
          (subst (λ (x : DeviceSeen). FailsAt (IsOpeningCall x.size x.content) (fault_in_image stop) is.after.failed_call) before is.on.which))
          (subst (λ (ds : List DeviceSeen). KeptBy stop ds (r.0 ∷ [])) was (subst (KeptBy stop old.devices) r.1 is.kept));
      kept = r.2;
    }

-- ---- the guest's drive

pub keeps-drive : (format : Format) (d : DeviceSeen) (over : Nodes) (image : ℕ) → IsImageNodeOver format (file_node_alone d) over → image ≡ 1
    → KeepsPermissions (with_below over (guest_edge over 0 image false)).graph.edges
keeps-drive format d over image is first =
    let as_is = over-as format d over is in
    subst (λ (k : ℕ). KeepsPermissions (with_below over (guest_edge over 0 k false)).graph.edges) (sym first)
    (drive-keeps over as_is.one.edges _ false over.graph.kinds)

-- the image's node is one of the graph's
pub image-there : (format : Format) (d : DeviceSeen) (over : Nodes) (image : ℕ) → IsImageNodeOver format (file_node_alone d) over → image ≡ 1 → HasNode over.graph image
image-there Raw d over image is first =
    subst (HasNode over.graph) (sym first) (subst (λ (o : Nodes). HasNode o.graph 1) (sym is.1) (Contains-there 0 (1 ∷ []) 1 (Contains-here 1 [])))
image-there Qcow2 d over image is first =
    subst (HasNode over.graph) (sym first) (subst (λ (o : Nodes). HasNode o.graph 1) (sym is.3) (Contains-there 0 (1 ∷ []) 1 (Contains-here 1 [])))

-- ---- the whole

pub all-made : (format : Format) (d : DeviceSeen) (file over nodes : Nodes) (image : ℕ) → IsFileOver d file → image ≡ 1 → IsImageNodeOver format file over
    → nodes ≡ with_below over (guest_edge over 0 1 false) → IsJoined nodes → Unfolds nodes → IsOpenedAs format d nodes image
all-made format d file over nodes image of_file first is drive joined disks =
    let made : AreMadeOf format d nodes = record {
      node = of_file.node;
      number = of_file.number;
      over = over;
      image = subst (λ (f : Nodes). IsImageNodeOver format f over) of_file.is is;
      drive = drive;
      joined = joined;
    } in
    record { number = first; made = made; disks = disks; one = made-one format d nodes made }

-- no addition of the image's node is refused
pub not-refused : {T : Type 0} (d : DeviceSeen) (old : Nodes) (name : List ℕ) (kind : NodeKind) (edges : ℕ → List Edge → List Edge) (result : Result T AddStop) → IsFileOver d old
    → name ≡ image_name → ((id : ℕ) → edges id [] ≡ file_edge id 0 ∷ []) → IfErr result IsOverStop
    → ((result ≡ Err adding.NameTaken) ↔ HasName old.graph name) → ((result ≡ Err adding.TooManyNodes) ↔ ((length old.graph.nodes ≡ 64) × ¬ HasName old.graph name))
    → ((pair : Pair) → result ≡ Err (adding.Conflict pair) → IsDenied old kind edges pair) → IsOk result
not-refused d old name kind edges (Ok id) over named one only taken full denied = refl
not-refused d old name kind edges (Err stop) over named one only taken full denied =
    absurd (not-stopped d kind edges stop one only
    (λ is. subst (λ (o : Nodes). HasName o.graph image_name) over.is (subst (HasName old.graph) named (taken.0 (ap Err is))))
    (λ is. subst (λ (o : Nodes). length o.graph.nodes ≡ 64) over.is (full.0 (ap Err is)).0)
    (λ pair is. subst (λ (o : Nodes). IsDenied o kind edges pair) over.is (denied pair (ap Err is))))
