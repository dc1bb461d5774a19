-- The window of a virtio block device. w is its state, and m guest memory.
-- Source: OASIS virtio 1.2, sections 4.2.2 (MMIO registers), 2.1 (device status), 2.2 (feature bits) and 5.2.
use Rattle.std.specs.Prelude.{◌≡◌, ℕ, ◌+◌, ◌-◌, ◌*◌, ◌/◌, ◌%◌, ◌^◌, ◌<◌, Bool, true, false, not, ◌&&◌, ◌||◌, ◌==◌, if◌then◌else◌, bit_and, bit_or}
use Rattle.vm_law.specs.Memory.{Memory}
use Rattle.vm_law.specs.declared.chips.WindowState.{WindowState}
use Rattle.vq_ring.specs.declared.ring.Ring.{Ring}
use Rattle.vq_ring.specs.Ring.{is_size, lies_in}
use Rattle.vq_ring.specs.Chain.{has, avail_index}
use Rattle.vm_vblk.specs.declared.pulled.WindowEffect.{WindowEffect}
use Rattle.vm_vblk.specs.declared.pulled.WindowEffect.TheVariants as effect
use Rattle.vm_vblk.specs.declared.register.Register.{Register}
use Rattle.vm_vblk.specs.declared.register.Register.TheVariants.{MagicValue, Version, DeviceId, DeviceFeatures, DeviceFeaturesSel, DriverFeatures, DriverFeaturesSel, QueueSel, QueueNumMax, QueueNum, QueueReady, QueueNotify, InterruptStatus, InterruptAck, Status, QueueDescLow, QueueDescHigh, QueueDriverLow, QueueDriverHigh, QueueDeviceLow, QueueDeviceHigh, CapacityLow, CapacityHigh}

-- at reset each register is 0
abbrev pub at_start : ℕ → Bool → WindowState
at_start sectors ro = record {
  sectors = sectors;
  ro = ro;
  status = 0;
  device_features_sel = 0;
  driver_features_sel = 0;
  driver_features = 0;
  queue_sel = 0;
  queue_num = 0;
  queue_ready = false;
  queue_desc = 0;
  queue_avail = 0;
  queue_used = 0;
  last_avail = 0;
  used_index = 0;
  notified = false;
  interrupt_status = 0;
}

-- ---- what holds of a window at all times

-- the driver is ready (DRIVER_OK, 4), and the device needs no reset (DEVICE_NEEDS_RESET, 64)
unfoldable pub works : ℕ → Bool
works status = has status 4 && not (has status 64)

-- the queue's size is 0 until it is set; a queue that is ready has one; the interrupt status has two bits; a notification is
-- kept only while the queue is ready and the device works
pub record IsState (w : WindowState) : Type 0 where
  pub size : ((w.queue_num == 0) || is_size w.queue_num) ≡ true
  pub ready : w.queue_ready ≡ true → is_size w.queue_num ≡ true
  pub interrupt : w.interrupt_status < 4
  pub notified : w.notified ≡ true → (w.queue_ready && works w.status) ≡ true

-- ---- the queue

abbrev pub ring_of : WindowState → Ring
ring_of w = record { size = w.queue_num; desc = w.queue_desc; avail = w.queue_avail; used = w.queue_used }

-- where it is ready, its tables lie well over these bytes
abbrev pub LiesOver : Memory → WindowState → Type 0
LiesOver m w = w.queue_ready ≡ true → lies_in (ring_of w) m ≡ true

-- more chains were made available than were taken
abbrev pub has_more : Memory → WindowState → Bool
has_more m w = not (avail_index m (ring_of w) == w.last_avail)

-- a chain waits
abbrev pub waits : Memory → WindowState → Bool
waits m w = w.queue_ready && has_more m w

-- ---- features, of which a word of 32 bits is selected at a time

-- VIRTIO_F_VERSION_1 (32), VIRTIO_BLK_F_FLUSH (9), and VIRTIO_BLK_F_RO (5) where the disk is so
abbrev pub offered : Bool → ℕ
offered ro = 2 ^ 32 + 2 ^ 9 + (if ro then 2 ^ 5 else 0)

-- word 0 is the low half, and word 1 the high half
abbrev pub half_of : ℕ → ℕ → ℕ
half_of number select = if select == 0 then number % 2 ^ 32 else if select == 1 then number / 2 ^ 32 else 0

abbrev pub with_half : ℕ → ℕ → ℕ → ℕ
with_half number select value =
    if select == 0 then number / 2 ^ 32 * 2 ^ 32 + value else if select == 1 then value * 2 ^ 32 + number % 2 ^ 32 else number

-- the driver took none that isn't offered, and version 1
unfoldable pub agrees : Bool → ℕ → Bool
agrees ro features = (bit_and features (offered ro) == features) && has features (2 ^ 32)

-- ---- reads

abbrev pub value_read : WindowState → Register → ℕ
value_read w MagicValue = 0x74726976
value_read w Version = 2
value_read w DeviceId = 2
value_read w DeviceFeatures = half_of (offered w.ro) w.device_features_sel
value_read w QueueNumMax = if w.queue_sel == 0 then 128 else 0
value_read w QueueReady = if w.queue_ready && (w.queue_sel == 0) then 1 else 0
value_read w InterruptStatus = w.interrupt_status
value_read w Status = w.status
value_read w CapacityLow = half_of w.sectors 0
value_read w CapacityHigh = half_of w.sectors 1
value_read w _ = 0

-- ---- writes

-- the device needs a reset, and the driver is told by the interrupt of a changed configuration
abbrev pub broken : WindowState → WindowState
broken w = record w { status = bit_or w.status 64; interrupt_status = bit_or w.interrupt_status 2; notified = false }

-- a notification of queue 0 is heard where the queue is ready, the device works, and a chain waits
abbrev pub hears : Memory → WindowState → ℕ → Bool
hears m w queue = (queue == 0) && works w.status && waits m w

-- the bits of the status that the driver can set: not DEVICE_NEEDS_RESET (64), and FEATURES_OK (8) only where it agrees
abbrev pub settable : WindowState → ℕ
settable w = if agrees w.ro w.driver_features then 0xBF else 0xB7

-- a status of 0 resets the window and the queue; another one adds its bits
abbrev pub with_status : WindowState → ℕ → WindowState
with_status w value = if value == 0 then at_start w.sectors w.ro else record w { status = bit_or w.status (bit_and value (settable w)) }

-- the queue's registers can be written while queue 0 is selected and isn't ready
abbrev pub is_open : WindowState → Bool
is_open w = not w.queue_ready && (w.queue_sel == 0)

-- it becomes ready where its tables lie well, and else the device breaks
abbrev pub made_ready : Memory → WindowState → WindowState
made_ready m w = if lies_in (ring_of w) m then record w { queue_ready = true } else broken w

abbrev pub after_write : Memory → WindowState → Register → ℕ → WindowState
after_write m w DeviceFeaturesSel value = record w { device_features_sel = value }
after_write m w DriverFeatures value = record w { driver_features = with_half w.driver_features w.driver_features_sel value }
after_write m w DriverFeaturesSel value = record w { driver_features_sel = value }
after_write m w QueueSel value = record w { queue_sel = value }
after_write m w QueueNum value = if is_open w && is_size value then record w { queue_num = value } else w
after_write m w QueueReady value = if is_open w && (value == 1) then made_ready m w else w
after_write m w QueueNotify value = if hears m w value then record w { notified = true } else w
after_write m w InterruptAck value = record w { interrupt_status = w.interrupt_status - bit_and w.interrupt_status value }
after_write m w Status value = with_status w value
after_write m w QueueDescLow value = if is_open w then record w { queue_desc = with_half w.queue_desc 0 value } else w
after_write m w QueueDescHigh value = if is_open w then record w { queue_desc = with_half w.queue_desc 1 value } else w
after_write m w QueueDriverLow value = if is_open w then record w { queue_avail = with_half w.queue_avail 0 value } else w
after_write m w QueueDriverHigh value = if is_open w then record w { queue_avail = with_half w.queue_avail 1 value } else w
after_write m w QueueDeviceLow value = if is_open w then record w { queue_used = with_half w.queue_used 0 value } else w
after_write m w QueueDeviceHigh value = if is_open w then record w { queue_used = with_half w.queue_used 1 value } else w
after_write m w _ value = w

-- a status of 0 is a reset
abbrev pub effect_of : Register → ℕ → WindowEffect
effect_of Status value = if value == 0 then effect.Reset else effect.Nothing
effect_of _ value = effect.Nothing

-- the interrupt line
abbrev pub line : WindowState → Bool
line w = not (w.interrupt_status == 0)
