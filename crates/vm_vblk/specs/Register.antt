-- Which register stands at an offset of the window. Source: OASIS virtio 1.2, section 4.2.2, and section 5.2.4.
use Rattle.std.specs.Prelude.{ℕ, ◌==◌, if◌then◌else◌}
use Rattle.vm_vblk.specs.declared.register.Register.{Register}
use Rattle.vm_vblk.specs.declared.register.Register.TheVariants.{MagicValue, Version, DeviceId, VendorId, DeviceFeatures, DeviceFeaturesSel, DriverFeatures, DriverFeaturesSel, QueueSel, QueueNumMax, QueueNum, QueueReady, QueueNotify, InterruptStatus, InterruptAck, Status, QueueDescLow, QueueDescHigh, QueueDriverLow, QueueDriverHigh, QueueDeviceLow, QueueDeviceHigh, ConfigGeneration, CapacityLow, CapacityHigh, Reserved}

unfoldable pub register_at : ℕ → Register
register_at offset =
    if offset == 0x000 then MagicValue
    else if offset == 0x004 then Version
    else if offset == 0x008 then DeviceId
    else if offset == 0x00C then VendorId
    else if offset == 0x010 then DeviceFeatures
    else if offset == 0x014 then DeviceFeaturesSel
    else if offset == 0x020 then DriverFeatures
    else if offset == 0x024 then DriverFeaturesSel
    else if offset == 0x030 then QueueSel
    else if offset == 0x034 then QueueNumMax
    else if offset == 0x038 then QueueNum
    else if offset == 0x044 then QueueReady
    else if offset == 0x050 then QueueNotify
    else if offset == 0x060 then InterruptStatus
    else if offset == 0x064 then InterruptAck
    else if offset == 0x070 then Status
    else if offset == 0x080 then QueueDescLow
    else if offset == 0x084 then QueueDescHigh
    else if offset == 0x090 then QueueDriverLow
    else if offset == 0x094 then QueueDriverHigh
    else if offset == 0x0A0 then QueueDeviceLow
    else if offset == 0x0A4 then QueueDeviceHigh
    else if offset == 0x0FC then ConfigGeneration
    else if offset == 0x100 then CapacityLow
    else if offset == 0x104 then CapacityHigh
    else Reserved
