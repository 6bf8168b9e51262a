mod Writable
