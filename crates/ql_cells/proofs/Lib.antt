mod Changes
mod Ordered
mod Printed
mod Reserved
