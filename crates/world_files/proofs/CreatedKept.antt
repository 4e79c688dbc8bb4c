-- What a creation leaves that had no memory: everything as it was.
use Rattle.std.proofs.Common.{◌≡◌, ◌≢◌, ℕ, suc, ◌≤◌, List, [], ◌∷◌, length, map, Some, None, Err, refl, sym, ◌∙◌, ap, subst, arith, inl, inr}
use Rattle.std.specs.Prelude.{Contains, AllPairs}
use Rattle.std.proofs.lemmas.Bool.{eq-eqb, ne_eqb, cases_eq}
use Rattle.blk_graph.proofs.Members.{Contains-map, map-Contains}
use Rattle.q2_format.specs.Created.{Creation}
use Rattle.qmp_codec.specs.declared.nodes.CreateQcow2.{CreateQcow2}
use Rattle.qmp_codec.specs.declared.nodes.Created.TheVariants as created
use Rattle.qmp_rules.specs.Asks.{id_or}
use Rattle.qmp_codec.specs.declared.nodes.BlockdevCreate.{BlockdevCreate}
use Rattle.qmp_codec.specs.declared.nodes.Created.{Created}
use Rattle.qmp_rules.specs.Edits.{spoiled, create_edits, created_change}
use Rattle.qmp_rules.specs.Room.{Roomy, HasRoomForChanges}
use Rattle.qmp_rules.specs.declared.change.Change.TheVariants.{KeepId}
use Rattle.qmp_rules.specs.Table.{RunTable}
use Rattle.blk_nodes.specs.Formatting.{IsFormatAt}
use Rattle.blk_nodes.specs.Joined.{IsJoined, DifferInNode}
use Rattle.blk_nodes.specs.Nodes.{Nodes, DeviceSeen, is_device_of, device_in}
use Rattle.blk_nodes.specs.declared.stop.FormatStop.{FormatStop}
use Rattle.blk_nodes.specs.declared.stop.FormatStop.TheVariants as stop
use Rattle.world_parts.specs.Creating.{creation_for, unformatted, HasFormatted}
use Rattle.world_files.specs.Creations.{IsUncreated}
use Rattle.world_parts.specs.Deleting.{Ground}
use Rattle.world_parts.specs.Steps.{StoreSeen}
use Rattle.world_parts.proofs.DeletedLists.{find_none}

abbrev node_in : DeviceSeen → ℕ
node_in d = d.node

pairs-tail : (x : DeviceSeen) (xs : List DeviceSeen) → AllPairs DifferInNode (x ∷ xs) → AllPairs DifferInNode xs
pairs-tail x xs all i j d before below = all (suc i) (suc j) d (omega (arith, before)) (omega (arith, below))

-- none of the later ones is of the first one's node
pairs-head : (x : DeviceSeen) (xs : List DeviceSeen) → AllPairs DifferInNode (x ∷ xs) → (d : DeviceSeen) → Contains xs d → d.node ≢ x.node
pairs-head x xs all d there same =
    all 0 (suc there.0) d (omega arith) (omega (arith, there.1)) (sym same ∙ ap node_in (sym there.2))

absent : (n : ℕ) (ds : List DeviceSeen) → ((d : DeviceSeen) → Contains ds d → d.node ≢ n) → device_in ds n ≡ None
absent n ds none = find_none (is_device_of n) ds (λ d there. ne_eqb d.node n (none d there))

at-head : (d : DeviceSeen) (ds : List DeviceSeen) (n : ℕ) → d.node ≡ n → device_in (d ∷ ds) n ≡ Some d
at-head d ds n is = rw (eq-eqb d.node n is) refl

past-head : (d : DeviceSeen) (ds : List DeviceSeen) (n : ℕ) → d.node ≢ n → device_in (d ∷ ds) n ≡ device_in ds n
past-head d ds n apart = rw (ne_eqb d.node n apart) refl

-- lists of devices of the same nodes in which the same are found
pub same_list : (old new : List DeviceSeen) → map node_in new ≡ map node_in old → AllPairs DifferInNode old
    → ((n : ℕ) → device_in new n ≡ device_in old n) → new ≡ old
same_list [] [] nodes once same = refl
same_list [] (b ∷ new) nodes once same = absurd (let e : ⊥ = cc nodes in e)
same_list (a ∷ old) [] nodes once same = absurd (let e : ⊥ = cc nodes in e)
same_list (a ∷ old) (b ∷ new) nodes once same =
    let heads : b.node ≡ a.node = cc nodes in
    let tails : map node_in new ≡ map node_in old = cc nodes in
    let found : Some b ≡ Some a = sym (at-head b new a.node heads) ∙ same a.node ∙ at-head a old a.node refl in
    let first : b ≡ a = cc found in
    ap (λ (d : DeviceSeen). d ∷ new) first
    ∙ ap (λ (ds : List DeviceSeen). a ∷ ds) (same_list old new tails (pairs-tail a old once) (tail heads tails))
  where
    others : map node_in new ≡ map node_in old → (d : DeviceSeen) → Contains new d → d.node ≢ a.node
    others tails d there same' =
        let at : Contains (map node_in old) d.node = subst (λ (ns : List ℕ). Contains ns d.node) tails (map-Contains node_in new d there) in
        let from = Contains-map node_in old d.node at in
        pairs-head a old once from.0 from.1 (sym from.2 ∙ same')

    tail : b.node ≡ a.node → map node_in new ≡ map node_in old → (n : ℕ) → device_in new n ≡ device_in old n
    tail heads tails n = elim (cases_eq a.node n) [
      | inl is ↦
          absent n new (λ d there at. others tails d there (at ∙ sym is)) ∙ sym (absent n old (λ d there at. pairs-head a old once d there (at ∙ sym is)))
      | inr apart ↦ sym (past-head b new n (λ e. apart (sym heads ∙ e))) ∙ same n ∙ past-head a old n apart
    ]

-- nothing was tried
pub nothing_tried : (nodes : Nodes) (devices : List DeviceSeen) (node : ℕ) (image : Creation) → IsJoined nodes
    → IsFormatAt node nodes.devices devices image (Err stop.NoMemory) → devices ≡ nodes.devices
nothing_tried nodes devices node image joined at =
    same_list nodes.devices devices at.only.nodes joined.once
    (λ n. elim (cases_eq n node) [
      | inl same ↦
          ap (device_in devices) same ∙ at.left ∙ ap (λ (d : DeviceSeen). Some d) at.formatted.cause.1 ∙ sym (ap (device_in nodes.devices) same ∙ at.held)
      | inr apart ↦ at.only.others n apart
    ])

-- a creation in a node that stopped, as a refusal
pub uncreated : (t : RunTable) (c : CreateQcow2 (List ℕ)) (old now : Ground) (why : FormatStop)
    → HasFormatted (id_or 0 t (Some c.file)) old now (creation_for c) (Err why) → (why ≡ stop.NoMemory → now.nodes ≡ old.nodes)
    → IsUncreated t (created.Qcow2 c) old now (unformatted why)
uncreated t c old now (stop.Io dev count) formatted back = record { why = stop.Io dev count; formatted = formatted; is = refl }
uncreated t c old now (stop.NoSpace dev) formatted back = record { why = stop.NoSpace dev; formatted = formatted; is = refl }
uncreated t c old now stop.NoMemory formatted back =
    ap (λ (s : StoreSeen). let g : Ground = record { store = s; nodes = now.nodes } in g) formatted.store
    ∙ ap (λ (n : Nodes). let g : Ground = record { store = old.store; nodes = n } in g) (back refl)

-- room for more changes is room for fewer
pub has_room_less : (more fewer : ℕ) (names : Roomy) → HasRoomForChanges more names → fewer ≤ more → HasRoomForChanges fewer names
has_room_less more fewer names has less = record {
  nodes = omega (arith, has.nodes);
  devices = omega (arith, has.devices);
  jobs = omega (arith, has.jobs);
  bitmaps = omega (arith, has.bitmaps);
  files = omega (arith, has.files);
  kept = omega (arith, has.kept);
  starts = omega (arith, has.starts);
}

-- what a failed creation leaves is one change, and a creation makes two
pub fewer_spoiled : (t : RunTable) (c : BlockdevCreate (List ℕ)) → length (spoiled t c.options) ≤ length (create_edits t c)
fewer_spoiled t c = by_options c.options
  where
    by_options : (options : Created (List ℕ)) → length (spoiled t options) ≤ length (KeepId c.job_id ∷ created_change t options)
    by_options (created.File f) = omega arith
    by_options (created.Qcow2 q) = omega arith
    by_options created.Unknown = omega arith
